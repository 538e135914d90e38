-- The laws of subjects, identities and the values of actions.
use Rattle.std.proofs.Common.{◌≡◌, Some, refl}
use Rattle.pk_types.specs.declared.values.Subject.TheVariants as subject_is
use Rattle.pk_types.specs.declared.values.Identity.TheVariants as identity_is
use Rattle.pk_types.specs.declared.values.Implicit.{Implicit}
use Rattle.pk_types.specs.declared.values.Implicit.TheVariants as implicit_is
use Rattle.pk_types.specs.declared.values.Category.{Category}
use Rattle.pk_types.specs.declared.values.Category.TheVariants as category_is
use Rattle.audit_words.specs.Codecs.{named_in}
use Rattle.audit_words.specs.Faults.{Lawful}
use Rattle.audit_words.proofs.Parts.{made_lawful, ◌⊗◌}
use Rattle.audit_words.proofs.Chosen.{case_is, again_in, AreCases, AreAgain, cases_lawful}
use Rattle.audit_words.proofs.Names.{name_among_lawful}
use Rattle.audit_words.proofs.Numbers.{word_32, word_64}
use Rattle.audit_words.proofs.TextWords.{text_lawful}
use Rattle.audit_values.specs.Values.{pair, pair_shape, subject, subject_spelled, subject_cases, identity, identity_spelled, identity_cases, implicit, implicit_name, implicit_names, category, category_name, category_names}

pub pair_lawful : Lawful pair
pair_lawful = made_lawful pair_shape (λ p. refl) (text_lawful ⊗ text_lawful)

subject_again : AreAgain subject
subject_again (subject_is.Process pid start) rest f = again_in (word_32 ⊗ word_64) (λ p. subject_is.Process p.0 p.1) (pid, start) rest f
subject_again (subject_is.Session id) rest f = again_in text_lawful (λ p. subject_is.Session p) id rest f
subject_again (subject_is.BusName name) rest f = again_in text_lawful (λ p. subject_is.BusName p) name rest f

subject_are : AreCases subject subject_cases
subject_are = (case_is (word_32 ⊗ word_64) refl (λ ws. refl) (λ p. refl) (λ p f. f), (case_is text_lawful refl (λ ws. refl) (λ p. refl) (λ p f. f), (case_is text_lawful refl (λ ws. refl) (λ p. refl) (λ p f. f), tt)))

pub subject_lawful : Lawful subject
subject_lawful = cases_lawful subject_spelled subject_cases tt subject_are subject_again

identity_again : AreAgain identity
identity_again (identity_is.User n) rest f = again_in word_32 (λ p. identity_is.User p) n rest f
identity_again (identity_is.Group n) rest f = again_in word_32 (λ p. identity_is.Group p) n rest f

identity_are : AreCases identity identity_cases
identity_are = (case_is word_32 refl (λ ws. refl) (λ p. refl) (λ p f. f), (case_is word_32 refl (λ ws. refl) (λ p. refl) (λ p f. f), tt))

pub identity_lawful : Lawful identity
identity_lawful = cases_lawful identity_spelled identity_cases tt identity_are identity_again

implicit_back : (v : Implicit) → named_in implicit_names (implicit_name v) ≡ Some v
implicit_back implicit_is.No = refl
implicit_back implicit_is.AuthSelf = refl
implicit_back implicit_is.AuthAdmin = refl
implicit_back implicit_is.AuthSelfKeep = refl
implicit_back implicit_is.AuthAdminKeep = refl
implicit_back implicit_is.Yes = refl

pub implicit_lawful : Lawful implicit
implicit_lawful = name_among_lawful implicit_name implicit_names implicit_is.No refl implicit_back

category_back : (v : Category) → named_in category_names (category_name v) ≡ Some v
category_back category_is.Any = refl
category_back category_is.Inactive = refl
category_back category_is.Active = refl

pub category_lawful : Lawful category
category_lawful = name_among_lawful category_name category_names category_is.Any refl category_back
