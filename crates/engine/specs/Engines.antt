-- The answers of an engine that carry a pass, and who has the token.
--   held_as, given_as  a hold's and a giving back's answer, the pass left out
--   host_has           whether the host has the token
--   playable           the calls of a list that are played
-- Assumes nothing.
use Rattle.std.specs.Prelude.{Bool, true, false, List, length, take, Ok, Err, Result}
use Rattle.model.specs.declared.refusal.HoldRefusal.{HoldRefusal}
use Rattle.model.specs.declared.refusal.GiveBackRefusal.{GiveBackRefusal}
use Rattle.model.specs.declared.call.Call.{Call}
use Rattle.model.specs.declared.call.Reply.{Reply}
use Rattle.model.specs.declared.state.Token.{Token}
use Rattle.model.specs.declared.state.Token.TheVariants.{Host}
use Rattle.engine.specs.declared.pass.Pass.{Pass}

-- what a hold answers, the pass left out
abbrev pub held_as : Result Pass HoldRefusal → Result (Unit {0}) HoldRefusal
held_as (Ok pass) = Ok tt
held_as (Err r) = Err r

-- what a giving back answers: on a no the pass stays with the caller
abbrev pub given_as : Result (Unit {0}) (GiveBackRefusal × Pass) → Result (Unit {0}) GiveBackRefusal
given_as (Ok x) = Ok x
given_as (Err r) = Err r.0

-- whether the host has the token
abbrev pub host_has : Token → Bool
host_has Host = true
host_has _ = false

-- the calls of a list that are played: as many as there are places for replies
abbrev pub playable : List Call → List Reply → List Call
playable calls replies = take (length replies) calls
