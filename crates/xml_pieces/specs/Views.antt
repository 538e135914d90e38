-- What the values of the code stand for.
use Rattle.std.specs.Prelude.{ℕ, List, map}
use Rattle.std.specs.Borrow.{Bor}
use Rattle.std.specs.declared.hash.FoldHasher.{FoldHasher}
use Rattle.std.specs.declared.hash.BuildHasherDefault.{BuildHasherDefault}
use Rattle.indexmap.specs.IndexMap.{IndexMap}
use Rattle.pk_types.specs.declared.values.Pair.{Pair}
use Rattle.xml_pieces.specs.declared.attributes.Attribute.{Attribute as Held}
use Rattle.xml_pieces.specs.declared.attributes.StartTag.{StartTag as HeldTag}
use Rattle.xml_pieces.specs.declared.attributes.TagStep.{TagStep}
use Rattle.xml_pieces.specs.declared.attributes.TagStep.TheVariants as tag_steps
use Rattle.xml_pieces.specs.declared.texts.TextStep.{TextStep}
use Rattle.xml_pieces.specs.declared.texts.TextStep.TheVariants as text_steps
use Rattle.xml_pieces.specs.declared.markup.PrologStep.{PrologStep}
use Rattle.xml_pieces.specs.declared.markup.PrologStep.TheVariants as prolog_steps
use Rattle.xml_pieces.specs.declared.children.Next.{Next as HeldNext}
use Rattle.xml_pieces.specs.declared.children.Next.TheVariants as nexts
use Rattle.xml_pieces.specs.declared.children.NextStep.{NextStep}
use Rattle.xml_pieces.specs.declared.children.NextStep.TheVariants as next_steps
use Rattle.xml_pieces.specs.declared.walk.Walk.{Walk}
use Rattle.xml_pieces.specs.declared.walk.Walk.TheVariants as walk
use Rattle.xml_pieces.specs.Reading.{Step, On, Done}
use Rattle.xml_pieces.specs.Markup.{Prolog}
use Rattle.xml_pieces.specs.Texts.{Attribute, Attributes, Tag}
use Rattle.xml_pieces.specs.References.{Reading}
use Rattle.xml_pieces.specs.Children.{Next, Child, End}

-- attributes by their names
abbrev pub AttributeMap : Type 0
AttributeMap = IndexMap (Bor (List ℕ)) (List ℕ) (BuildHasherDefault FoldHasher)

abbrev pub pair_in : Bor (List ℕ) × List ℕ → Pair
pair_in (name, value) = record { key = name.now; value = value }

abbrev pub pairs : AttributeMap → List Pair
pairs attributes = map pair_in attributes.entries

abbrev pub attribute_of : Held × Bor (List ℕ) → Attribute
attribute_of (held, rest) = record { name = held.name.now; value = held.value; rest = rest.now }

abbrev pub tag_of : HeldTag → Tag
tag_of t = record { attributes = pairs t.attributes; is_empty = t.is_empty; rest = t.rest.now }

abbrev pub tag_on : AttributeMap → TagStep → Step Attributes Tag
tag_on held (tag_steps.On rest) = On (pairs held, rest.now)
tag_on held (tag_steps.Done is_empty rest) = Done (record { attributes = pairs held; is_empty = is_empty; rest = rest.now })

abbrev pub text_on : List ℕ → TextStep → Step Reading Reading
text_on so_far (text_steps.On rest) = On (so_far, rest.now)
text_on so_far (text_steps.Done text rest) = Done (text, rest.now)

abbrev pub prolog_on : PrologStep → Step Prolog (List ℕ)
prolog_on (prolog_steps.On may rest) = On (may, rest.now)
prolog_on (prolog_steps.Done rest) = Done rest.now

abbrev pub next_of : HeldNext → Next
next_of (nexts.Child name place rest) = Child name.now place.now rest.now
next_of (nexts.End rest) = End rest.now

abbrev pub next_on : NextStep → Step (List ℕ) Next
next_on (next_steps.On rest) = On rest.now
next_on (next_steps.Done n) = Done (next_of n)

abbrev pub walked : Walk → Step (List ℕ) (List ℕ)
walked (walk.On rest) = On rest.now
walked (walk.Done rest) = Done rest.now

abbrev pub walk_on : {D : Type 0} → D → Walk → Step (D × List ℕ) (D × List ℕ)
walk_on d (walk.On rest) = On (d, rest.now)
walk_on d (walk.Done rest) = Done (d, rest.now)
