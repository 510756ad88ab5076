-- What a command to an engine does to it, and the text of its answer.
--   engine_after  the engine after a command
--   CommandReply  the text; only the order of tags is left free
-- Assumes nothing.
use Rattle.std.specs.Prelude.{◌≡◌, ℕ, List, ◌++◌, take, replicate, Ok, Err, codes, decimal, Result}
use Rattle.formats.specs.Refusals.{nothing_waits_number}
use Rattle.model.specs.declared.refusal.TagsRefusal.{TagsRefusal}
use Rattle.model.specs.declared.call.Reply.{Reply}
use Rattle.model.specs.declared.call.Reply.TheVariants.{Stepped, Cleared, Held, Word, GivenBack, Taken}
use Rattle.model.specs.Refusals.{hold_number, give_back_number, read_number, clear_number, record_number, tags_number}
use Rattle.model.specs.Engine.{Engine}
use Rattle.model.specs.Calls.{record_at, Tags, status, holder}
use Rattle.model.specs.Runs.{reply, played}
use Rattle.text.specs.Machines.{token_text}
use Rattle.text.specs.Digits.{refused_text}
use Rattle.text.specs.Texts.{sent_text}
use Rattle.console.specs.declared.command.EngineCommand.{EngineCommand}
use Rattle.console.specs.declared.command.EngineCommand.TheVariants.{Call, Moves, Record, Tags as TagsOf, Core, Token}
use Rattle.console.specs.ReplyTexts.{text_or_refusal, entry_reply, moved_reply, status_reply, spaced_text}
use Rattle.console.specs.Repeated.{repeated, repeated_reply}

-- a word that was read
abbrev pub word_text : ℕ → List ℕ
word_text w = codes "word " ++ decimal w

-- what a call answered
abbrev pub reply_text : Reply → List ℕ
reply_text (Stepped r) = moved_reply r
reply_text (Cleared r) = text_or_refusal (λ _. codes "cleared") clear_number r
reply_text (Held r) = text_or_refusal (λ _. codes "held") hold_number r
reply_text (Word r) = text_or_refusal word_text read_number r
reply_text (GivenBack r) = text_or_refusal (λ _. codes "given back") give_back_number r
reply_text (Taken r) = text_or_refusal sent_text nothing_waits_number r

-- the tags in the first places of a list
abbrev pub tags_text : Result ℕ TagsRefusal → List ℕ → List ℕ
tags_text (Ok n) list = decimal n ++ (codes ":" ++ spaced_text (take n list))
tags_text (Err r) list = refused_text (tags_number r)

-- the tags of a core, copied to a list of so many zeros: the list afterwards and the answer are such as the call allows
pub record TagsReply (e : Engine) (core places : ℕ) (text : List ℕ) : Type 0 where
  pub list : List ℕ
  pub answer : Result ℕ TagsRefusal
  pub copied : Tags e core (replicate places 0) list answer
  pub written : text ≡ tags_text answer list

-- the text of a command's answer
abbrev pub CommandReply : Engine → EngineCommand → List ℕ → Type 0
CommandReply e (Call c) text = text ≡ reply_text (reply e c)
CommandReply e (Moves m times) text = text ≡ repeated_reply (repeated e m times).answer
CommandReply e (Record place) text = text ≡ text_or_refusal entry_reply record_number (record_at e place)
CommandReply e (TagsOf core places) text = TagsReply e core places text
CommandReply e (Core core) text = text ≡ status_reply (status e core)
CommandReply e Token text = text ≡ token_text (holder e)

-- the engine after a command
abbrev pub engine_after : Engine → EngineCommand → Engine
engine_after e (Call c) = played e c
engine_after e (Moves m times) = (repeated e m times).engine
engine_after e _ = e
