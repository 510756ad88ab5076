-- Playing a packed list of calls: which words of it are played, and the bytes that answer them.
--   words_played   the words of the list that are played;  calls_in  those that are calls
--   answers_of     the bytes that answer some words, each call acting on what those before it left
-- Assumes nothing.
use Rattle.std.specs.Prelude.{ℕ, ◌*◌, ◌/◌, List, [], ◌∷◌, ◌++◌, length, take, drop, Ok, Err, Result}
use Rattle.memory.specs.Bytes.{words_in}
use Rattle.model.specs.declared.call.Call.{Call}
use Rattle.model.specs.Engine.{Engine}
use Rattle.model.specs.Runs.{reply, played}
use Rattle.calls.specs.declared.call.CallFault.{CallFault}
use Rattle.calls.specs.Calls.{call_of}
use Rattle.calls.specs.Replies.{reply_bytes, fault_bytes}

-- the bytes that answer a call, or a word that is none
abbrev pub answered : Engine → Result Call CallFault → List ℕ
answered e (Ok c) = reply_bytes (reply e c)
answered e (Err f) = fault_bytes f

-- the engine afterwards: a word that is no call leaves it as it is
abbrev pub after : Engine → Result Call CallFault → Engine
after e (Ok c) = played e c
after e (Err f) = e

-- the bytes that answer some words
abbrev pub answers_of : Engine → List ℕ → List ℕ
answers_of e [] = []
answers_of e (w ∷ ws) = answered e (call_of w) ++ answers_of (after e (call_of w)) ws

-- a call, and then the others
abbrev pub call_then : Result Call CallFault → List Call → List Call
call_then (Ok c) cs = c ∷ cs
call_then (Err f) cs = cs

-- the calls among some words
abbrev pub calls_in : List ℕ → List Call
calls_in [] = []
calls_in (w ∷ ws) = call_then (call_of w) (calls_in ws)

-- the words that are played: as many as there are whole answers to write
abbrev pub words_played : List ℕ → List ℕ → List ℕ
words_played calls answers = take (length answers / 8) (words_in calls)

-- all bytes for answers: those of the words played, and the others as they were
abbrev pub answers_left : Engine → List ℕ → List ℕ → List ℕ
answers_left e ws answers = answers_of e ws ++ drop (8 * length ws) answers
