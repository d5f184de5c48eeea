-- What is printed for a command.
use Rattle.std.specs.Prelude.{ℕ, List, [], ◌++◌, Ok, Err, Result, codes, decimal}
use Rattle.refusals.specs.Numbers.{numbers}
use Rattle.refusals.specs.Written as refusals
use Rattle.rules.specs.Meant.{any_of}
use Rattle.rules.specs.Rule.{RuleMeaning}
use Rattle.rules.specs.Written as rules
use Rattle.shapes.specs.Shape.{edge_word}
use Rattle.desk.specs.declared.done.DeskDone.{DeskDone}
use Rattle.desk.specs.declared.trouble.DeskTrouble.{DeskTrouble}
use Rattle.desk.specs.declared.trouble.DeskTrouble.TheVariants as desk_trouble
use Rattle.desk.specs.Written as desk
use Rattle.scenario.specs.declared.answer.BenchReply.{BenchReply}
use Rattle.scenario.specs.declared.answer.BenchReply.TheVariants.{Plates, Stores}
use Rattle.scenario.specs.declared.done.Done.{Done}
use Rattle.scenario.specs.declared.done.Done.TheVariants as done
use Rattle.scenario.specs.declared.trouble.Trouble.{Trouble}
use Rattle.scenario.specs.declared.trouble.Trouble.TheVariants as trouble

-- the reach and the top of a rule
abbrev pub limits_text : RuleMeaning → List ℕ
limits_text r = codes ": reach " ++ (decimal r.rx ++ (codes " and " ++ (decimal r.ry ++ (codes ", codes 0 to " ++ decimal r.top))))

-- what was done
abbrev pub done_text : Done → List ℕ
done_text done.Nothing = []
done_text (done.Ruled r) = codes "rule " ++ (rules.written r ++ limits_text (any_of r))
done_text (done.Plated s) = codes "plate " ++ (decimal s.width ++ (codes " " ++ (decimal s.height ++ (codes " " ++ (edge_word s.edgex ++ (codes " " ++ (edge_word s.edgey ++ codes ": all cells empty")))))))
done_text (done.RowSet y cells busy) = codes "row " ++ (decimal y ++ (codes ": " ++ (decimal cells ++ (codes " cells, " ++ (decimal busy ++ codes " busy")))))
done_text (done.Swept n updates before after) = codes "swept " ++ (decimal n ++ (codes " steps, " ++ (decimal updates ++ (codes " updates, busy " ++ (decimal before ++ (codes " before, " ++ (decimal after ++ codes " after")))))))

-- why it was not done
abbrev pub trouble_text : Trouble → List ℕ
trouble_text (trouble.Refused r) = codes "refused " ++ refusals.written (numbers r)
trouble_text trouble.NoRule = codes "no rule yet"
trouble_text (trouble.RowLength cells columns) = codes "a row of " ++ (decimal cells ++ (codes " cells, and the plate has " ++ (decimal columns ++ codes " columns")))
trouble_text trouble.NotUnderstood = codes "not understood"
trouble_text trouble.NoMemory = codes "not enough memory"

-- a text behind the number of its line
abbrev pub line_text : ℕ → List ℕ → List ℕ
line_text line text = codes "line " ++ (decimal line ++ (codes ": " ++ text))

-- a refusal is told by its numbers, and any other trouble with its line
abbrev pub reply_text : ℕ → Result Done Trouble → List ℕ
reply_text line (Ok d) = done_text d
reply_text line (Err (trouble.Refused r)) = trouble_text (trouble.Refused r)
reply_text line (Err trouble.NoRule) = line_text line (trouble_text trouble.NoRule)
reply_text line (Err (trouble.RowLength cells columns)) = line_text line (trouble_text (trouble.RowLength cells columns))
reply_text line (Err trouble.NotUnderstood) = line_text line (trouble_text trouble.NotUnderstood)
reply_text line (Err trouble.NoMemory) = line_text line (trouble_text trouble.NoMemory)

-- a fault is told by itself, and any other trouble with its line
abbrev pub desk_reply_text : ℕ → Result DeskDone DeskTrouble → List ℕ
desk_reply_text line (Ok d) = desk.done_text d
desk_reply_text line (Err (desk_trouble.Faulted f)) = desk.trouble_text (desk_trouble.Faulted f)
desk_reply_text line (Err desk_trouble.NoStore) = line_text line (desk.trouble_text desk_trouble.NoStore)
desk_reply_text line (Err desk_trouble.WindowTwice) = line_text line (desk.trouble_text desk_trouble.WindowTwice)
desk_reply_text line (Err desk_trouble.NoShelf) = line_text line (desk.trouble_text desk_trouble.NoShelf)
desk_reply_text line (Err desk_trouble.ShelfTwice) = line_text line (desk.trouble_text desk_trouble.ShelfTwice)
desk_reply_text line (Err desk_trouble.TooManyTiles) = line_text line (desk.trouble_text desk_trouble.TooManyTiles)
desk_reply_text line (Err desk_trouble.BadWorn) = line_text line (desk.trouble_text desk_trouble.BadWorn)
desk_reply_text line (Err desk_trouble.NoMemory) = line_text line (desk.trouble_text desk_trouble.NoMemory)

-- what a bench replies to a line
abbrev pub bench_reply_text : ℕ → BenchReply → List ℕ
bench_reply_text line (Plates r) = reply_text line r
bench_reply_text line (Stores r) = desk_reply_text line r
