-- A link that is dialled, used and hung up.
use Rattle.std.proofs.Common.{◌≡◌, ◌≤◌, ◌+◌, ◌-◌, ◌^◌, ℕ, Bool, true, false, List, [], ◌∷◌, ◌++◌, Option, Some, None, refl, sym, ap, subst, ◌∙◌, arith, min}
use Rattle.std.specs.Prelude.{IsTrue}
use Rattle.pk_outside.specs.Causes.{Rose, RoseWhere}
use Rattle.pk_outside.specs.Links.{EndsTell, Hung, LinkBack, Origin, bytes_of}
use Rattle.pk_outside.specs.Stations.{Dials, Hangs, StationTold}
use Rattle.pk_outside.specs.Streams.{Gave, Got, IsUsedUp}
use Rattle.pkcheck_tool.specs.Checks.{ComesBack, Visits}

-- what is told of one origin is told of another that is the same
same_path : (a b : Origin) → Some a ≡ Some b → a.path ≡ b.path
same_path a b e =
    let is : a ≡ b = cc in
    ap (λ (o : Origin). o.path) is

same_bytes : (a b : Origin) → Some a ≡ Some b → a.bytes ≡ b.bytes
same_bytes a b e =
    let is : a ≡ b = cc in
    ap (λ (o : Origin). o.bytes) is

some_is : (a b : List ℕ) → Some a ≡ Some b → a ≡ b
some_is a b e = cc

-- what was read of the bytes of an origin that is told
read_of : (left0 left : Option (List ℕ)) (read bytes rest : List ℕ) → left0 ≡ Some bytes → left ≡ Some rest → Gave left0 left read → bytes ≡ read ++ rest
read_of left0 left read bytes rest is0 is gave = rw (is0, is) at gave

-- what was written to a link of which nothing had been written
written_of : (held0 held : Option (List ℕ)) (written now : List ℕ) → IsUsedUp held0 → held ≡ Some now → Got held0 held written → now ≡ written
written_of None None written now unused is got = cc
written_of None (Some h) written now unused is got = absurd got
written_of (Some h0) None written now unused is got = absurd got
written_of (Some h0) (Some h) written now unused is got = some_is now h (sym is) ∙ got ∙ ap (λ b. b ++ written) unused

-- nothing is left, where the link ended
left_of : (left : Option (List ℕ)) (rest : List ℕ) → left ≡ Some rest → IsUsedUp left → rest ≡ []
left_of left rest is used = rw is at used

comes_back : (path : List ℕ) (a b c : StationTold) (origin origin' : Option Origin) (left0 left held0 held : Option (List ℕ)) (read written : List ℕ) (ended : Bool) (rf wf : ℕ)
    → Dials path (Some a) (Some b) origin → origin' ≡ origin → left0 ≡ bytes_of origin → Gave left0 left read → IsUsedUp held0 → Got held0 held written
    → Hangs (Some b) (Some c) (EndsTell origin' left held rf wf) → (IsTrue ended → IsUsedUp left) → ComesBack path a c read written ended rf wf
comes_back path a b c origin origin' left0 left held0 held read written ended rf wf dials same first gave unwritten got hangs all =
    let back : Hung = hangs.0 in
    let tells : EndsTell origin' left held rf wf back.path back.link = hangs.1 in
    let dialled : Origin = record { path = path; bytes = dials.0 } in
    let returned : Origin = record { path = back.path; bytes = back.link.given } in
    let one : Some dialled ≡ Some returned = sym dials.2 ∙ sym same ∙ tells.given in
    let given : dials.0 ≡ back.link.given = same_bytes dialled returned one in
    record {
      back = back;
      links = b.links;
      path_is = sym (same_path dialled returned one);
      dialled = ap (λ (t : StationTold). t.links) dials.1 ∙ ap (λ (g : List ℕ). g ∷ b.links) given;
      hung = subst (λ (t : StationTold). c ≡ record t { links = b.links; hung = t.hung ++ back ∷ [] }) (sym dials.1) hangs.2;
      given_is = sym given ∙ read_of left0 left read dials.0 back.link.left (first ∙ ap bytes_of dials.2) tells.left gave;
      written_is = written_of held0 held written back.link.written unwritten tells.written got;
      read_faults_are = sym tells.read_faults;
      write_faults_are = sym tells.write_faults;
      all = λ e. left_of left back.link.left tells.left (all e);
    }

pub visits : (path : List ℕ) (a b c : Option StationTold) (origin origin' : Option Origin) (left0 left held0 held : Option (List ℕ)) (read written : List ℕ) (ended : Bool) (rf wf : ℕ)
    → Dials path a b origin → origin' ≡ origin → left0 ≡ bytes_of origin → Gave left0 left read → IsUsedUp held0 → Got held0 held written
    → Hangs b c (EndsTell origin' left held rf wf) → (IsTrue ended → IsUsedUp left) → Visits path a c read written ended rf wf
visits path None None None origin origin' left0 left held0 held read written ended rf wf dials same first gave unwritten got hangs all = tt
visits path None None (Some c) origin origin' left0 left held0 held read written ended rf wf dials same first gave unwritten got hangs all = absurd hangs
visits path None (Some b) c origin origin' left0 left held0 held read written ended rf wf dials same first gave unwritten got hangs all = absurd dials
visits path (Some a) None c origin origin' left0 left held0 held read written ended rf wf dials same first gave unwritten got hangs all = absurd dials
visits path (Some a) (Some b) None origin origin' left0 left held0 held read written ended rf wf dials same first gave unwritten got hangs all = absurd hangs
visits path (Some a) (Some b) (Some c) origin origin' left0 left held0 held read written ended rf wf dials same first gave unwritten got hangs all =
    comes_back path a b c origin origin' left0 left held0 held read written ended rf wf dials same first gave unwritten got hangs all

-- a count that rose later rose
pub rose_later : (a b c : ℕ) → a ≤ b → Rose b c → Rose a c
rose_later a b c le rose = omega arith

-- a count never falls at a hanging up
pub where_later : (test : Bool) (a b : ℕ) → RoseWhere test a b → a ≤ b
where_later true a b rose = rose.0
where_later false a b rose = omega arith

pub le_both : (a b c : ℕ) → a ≤ b → b ≤ c → a ≤ c
le_both a b c first second = omega arith
