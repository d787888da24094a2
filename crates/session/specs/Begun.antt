-- Whether an opening was accepted, and the session that it begins.
use Rattle.std.specs.Prelude.{Bool, Result, Ok, Err, is_ok}
use Rattle.vocabulary.specs.declared.refusal.Refusal.{Refusal}
use Rattle.session.specs.declared.Session.{Session}

abbrev pub is_accepted : Result (Unit {0}) Refusal → Bool
is_accepted = is_ok

-- a session that goes on, or that of a refused opening
abbrev pub session_of : Result Session Session → Session
session_of (Ok s) = s
session_of (Err s) = s
