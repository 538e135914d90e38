mod RowFinding
mod RowChanging
mod RowAnswering
mod Finding
mod Indexing
mod Keying
mod IndexTaking
mod Counting
