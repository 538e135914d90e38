-- What a link in memory holds, and what is told of one that came back.
use Rattle.std.specs.Prelude.{ℕ, List, Option, drop}
use Rattle.pk_outside.specs.Links.{Origin, LinkBack, Hung}
use Rattle.memory_outside.specs.Held.{source_origin}
use Rattle.memory_outside.specs.declared.link.ByteLink.{ByteLink}
use Rattle.memory_outside.specs.declared.link.ReturnedLink.{ReturnedLink}

-- The bytes that a link will give.
abbrev pub link_bytes : ByteLink → List ℕ
link_bytes link = link.input.bytes.items

-- Where a link is from, and all that it will give.
abbrev pub link_origin : ByteLink → Option Origin
link_origin link = source_origin link.input

-- What is told of a link that came back.
abbrev pub link_back : ReturnedLink → LinkBack
link_back link = record {
  given = link.given.items;
  left = drop link.read link.given.items;
  written = link.written.items;
  read_faults = link.read_faults;
  write_faults = link.write_faults;
}

-- What is told of a dialled link that was hung up.
abbrev pub link_hung : ReturnedLink → Hung
link_hung link = record { path = link.path; link = link_back link }
