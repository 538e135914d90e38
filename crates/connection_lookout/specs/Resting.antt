-- On which temporary authorization a yes rests, and which of them were made before a load.
use Rattle.std.specs.Prelude.{◌≡◌, ◌⊎◌, ℕ, List, ◌∷◌, ◌++◌, Some}
use mathlib.Core.Logic.{inl, inr}
use Rattle.authority_model.specs.declared.journal.Item.{Item}
use Rattle.authority_model.specs.declared.verdict.GrantRow.{GrantRow}
use Rattle.authority_model.specs.declared.verdict.Reason.{Reason}
use Rattle.authority_model.specs.declared.verdict.Verdict.{Verdict}
use Rattle.authority_model.specs.Facts.{Facts}
use Rattle.authority_model.specs.Grants.{granted}
use Rattle.authority_model.specs.Licensed.{Licensed, MayAnswer, OwnPermits, Permits}
use Rattle.authority_model.specs.Words.{Bytes}

-- The temporary authorization was made in this history, whether it lives still or not.
pub record WasMade (past : List Item) (row : GrantRow) : Type 0 where
  pub later : List Item
  pub item : Item
  pub before : List Item
  pub parts : past ≡ later ++ item ∷ before
  pub made : granted before item ≡ Some row

-- an action is allowed by itself through this temporary authorization
abbrev pub OwnRestsOn : (past : List Item) (f : Facts) (a : Bytes) (t : ℕ) → OwnPermits past f a t → GrantRow → Type 0
OwnRestsOn past f a t (inl _) row = ⊥
OwnRestsOn past f a t (inr (inl _)) row = ⊥
OwnRestsOn past f a t (inr (inr (_, by))) row = by.grant ≡ row

-- A reason rests on this temporary authorization: by itself, or through an implying action.
abbrev pub RestsOn : (past : List Item) (f : Facts) (a : Bytes) (t : ℕ) (reason : Reason) → Permits past f a t reason → GrantRow → Type 0
RestsOn past f a t Reason.Root p row = ⊥
RestsOn past f a t (Reason.Default _) p row = ⊥
RestsOn past f a t (Reason.Entry _) p row = ⊥
RestsOn past f a t (Reason.Grant _) p row = p.grant ≡ row
RestsOn past f a t (Reason.Imply b) p row = OwnRestsOn past f b t p.own row
RestsOn past f a t Reason.Challenge p row = ⊥
RestsOn past f a t Reason.Dismissed p row = ⊥
RestsOn past f a t Reason.AgentGone p row = ⊥
RestsOn past f a t Reason.SubjectGone p row = ⊥
RestsOn past f a t Reason.ActionGone p row = ⊥
RestsOn past f a t Reason.IdentityGone p row = ⊥

-- the same of what is permitted, or may be answered
abbrev pub RedecidedRestsOn : (past : List Item) (f : Facts) (a : Bytes) (t : ℕ) (reason : Reason) (MayBe : Type 0) → Permits past f a t reason ⊎ MayBe → GrantRow → Type 0
RedecidedRestsOn past f a t reason MayBe (inl p) row = RestsOn past f a t reason p row
RedecidedRestsOn past f a t reason MayBe (inr _) row = ⊥

-- A yes rests on this temporary authorization, as it is licensed.
abbrev pub YesRestsOn : (past : List Item) (i : Item) (c serial : ℕ) (v : Verdict) → Licensed past i c serial v → GrantRow → Type 0
YesRestsOn past i c serial v (inl by) row = RestsOn past by.f by.action i.entry.moment v.reason by.permits row
YesRestsOn past i c serial v (inr by) row = RedecidedRestsOn past by.f by.action i.entry.moment v.reason ((v.reason ≡ Reason.Challenge) × MayAnswer past by.f by.action by.identity) by.permits row
