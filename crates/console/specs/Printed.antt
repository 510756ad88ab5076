-- The text of a line, and the lines that are printed for it.
-- Assumes nothing.
use Rattle.std.specs.Prelude.{ℕ, ◌-◌, ◌==◌, if◌then◌else◌, List, [], ◌∷◌, ◌++◌, length, take, slice_index, codes}
use Rattle.std.specs.List.{flat_map}
use Rattle.text.specs.Lines.{before_remark}
use Rattle.console.specs.declared.reason.Reason.{Reason}
use Rattle.console.specs.Reasons.{reason_text}
use Rattle.console.specs.Lines.{ended}
use Rattle.console.specs.Words.{words_of}

-- a line without the newline that ends it
abbrev pub without_newline : List ℕ → List ℕ
without_newline line = if slice_index line (length line - 1) == 10 then take (length line - 1) line else line

-- a line without its newline and its remark
abbrev pub text_of : List ℕ → List ℕ
text_of line = before_remark (without_newline line)

-- a word and a space
abbrev pub echo : List ℕ → List ℕ
echo word = word ++ (32 ∷ [])

-- words, a space after each
abbrev pub echoed : List (List ℕ) → List ℕ
echoed words = flat_map echo words

-- the beginning of an answer's line: the words of the line, and the arrow
abbrev pub head_text : List ℕ → List ℕ
head_text text = echoed (words_of text) ++ codes "-> "

-- the line for one that is not understood
abbrev pub reason_line : Reason → List ℕ
reason_line reason = codes "-> not understood: " ++ ended (reason_text reason)

-- the line of an answer
abbrev pub reply_line : List ℕ → List ℕ → List ℕ
reply_line text reply = head_text text ++ ended reply
