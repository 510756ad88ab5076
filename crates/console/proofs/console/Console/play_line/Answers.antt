use Rattle.std.proofs.Common.{ℕ, List, IfOk, Err, vec_items, Option, Result, refl, subst, inr}
use Rattle.std.specs.Option.{option_map}
use Rattle.std.proofs.lemmas.Result.{IfOk-weaker}
use Rattle.console.specs.declared.command.Command.{Command}
use Rattle.console.specs.declared.reason.ParseError.{ParseError}
use Rattle.console.specs.declared.reason.ParseError.TheVariants.{NotUnderstood, NoMemory}
use Rattle.console.specs.Parsing.{command_of}
use Rattle.console.specs.Reasons.{ParsesAs}
use Rattle.console.specs.Values.{command_value}
use Rattle.console.specs.declared.console.Console.{Console}
use Rattle.console.specs.declared.console.Next.{Next}
use Rattle.console.specs.Printed.{reason_line}
use Rattle.console.specs.Played.{Appends, Explained, Played}
use Rattle.console.proofs.console.Console.play_line.Goals as goal

-- a line that gives no command is explained, and leaves everything as it was
explained_played : {E : Type 0} (s : Console) (text before after : List ℕ) (error : ParseError) (r : Result Next E) → ParsesAs {A = Option Command} (option_map command_value) (Err error) (command_of text) → IfOk r (λ next. Explained error before after next) → IfOk r (λ next. Appends before after (λ printed. Played s text printed next s))
explained_played s text before after (NotUnderstood reason) r why reply =
    IfOk-weaker r
    (λ next. Explained (NotUnderstood reason) before after next)
    (λ next. Appends before after (λ printed. Played s text printed next s))
    (λ next e. (reason_line reason, e.0, inr (reason, why, refl, e.1, refl)))
    reply
explained_played s text before after NoMemory r why reply =
    IfOk-weaker r
    (λ next. Explained NoMemory before after next)
    (λ next. Appends before after (λ printed. Played s text printed next s))
    (λ next none. absurd none)
    reply

pub returns-in-Err : goal.returns-in-Err
returns-in-Err c =
    let At : List ℕ → Type 0 = λ text. IfOk c.explain.result (λ next. Appends (vec_items c.args.out.now) (vec_items c.explain.new.out) (λ printed. Played c.args.self.now text printed next c.args.self.now)) in
    subst At c.text_of-text.ensures (explained_played c.args.self.now c.text_of-text.result.now (vec_items c.args.out.now) (vec_items c.explain.new.out) c.in-Err.error c.explain.result c.in-Err.ensures c.explain.ensures)
