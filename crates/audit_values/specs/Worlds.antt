-- Users, groups, sessions and processes.
use Rattle.authority_model.specs.declared.world.User.{User}
use Rattle.authority_model.specs.declared.world.Group.{Group}
use Rattle.authority_model.specs.declared.world.Session.{Session}
use Rattle.authority_model.specs.declared.world.Process.{Process}
use Rattle.audit_words.specs.Codecs.{Codec, Shape, shape, made, number, boolean, ◌&◌, option, list}
use Rattle.audit_words.specs.Escapes.{text, short_text}
use Rattle.authority_model.specs.Worlds.{user_label, group_label}

-- the label is not written: it is made of the name
abbrev pub user_shape : Shape User
user_shape = shape (number 32 & short_text & list (number 32))
    (λ p. record { uid = p.0; name = p.1.0; label = user_label p.1.0; gids = p.1.1 })
    (λ v. (v.uid, (v.name, v.gids)))

abbrev pub user : Codec User
user = made user_shape

-- the label is not written
abbrev pub group_shape : Shape Group
group_shape = shape (number 32 & short_text)
    (λ p. record { gid = p.0; name = p.1; label = group_label p.1 })
    (λ v. (v.gid, v.name))

abbrev pub group : Codec Group
group = made group_shape

abbrev pub session_shape : Shape Session
session_shape = shape (text & number 32 & boolean & boolean)
    (λ p. record { id = p.0; uid = p.1.0; local = p.1.1.0; active = p.1.1.1 })
    (λ v. (v.id, (v.uid, (v.local, v.active))))

abbrev pub session : Codec Session
session = made session_shape

abbrev pub process_shape : Shape Process
process_shape = shape (number 32 & number 64 & number 32 & option text)
    (λ p. record { pid = p.0; start = p.1.0; uid = p.1.1.0; session = p.1.1.1 })
    (λ v. (v.pid, (v.start, (v.uid, v.session))))

abbrev pub process : Codec Process
process = made process_shape
