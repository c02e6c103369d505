-- What a text means as a room sheet: a plan, or the first refusal.
use Rattle.std.specs.Prelude.{ℕ, zero, suc, ◌+◌, cond, List, [], ◌∷◌, length, drop, Ok, Err, Result, nat_lt}
use Rattle.room.specs.declared.refusal.Refusal.{Refusal}
use Rattle.room.specs.declared.refusal.Refusal.TheVariants.{SheetTooLong, LineUnreadable, LineMissing, LineLeftOver, LineMalformed, LineOutOfRange}
use Rattle.text.specs.Lines.{Line, lines, readable}
use Rattle.forms.specs.declared.contents.Contents.{Contents}
use Rattle.forms.specs.declared.fault.Fault.{Fault}
use Rattle.forms.specs.declared.fault.Fault.TheVariants.{Form, Range}
use Rattle.forms.specs.Forms.{says_contents, says_piece, says_before, says_wall}
use Rattle.forms.specs.Outcome.{and_then, map_ok}
use Rattle.sheet.specs.Plan.{Plan}

abbrev pub max_sheet : ℕ
max_sheet = 16384

abbrev pub refusal_at : ℕ → Fault → Refusal
refusal_at number Form = LineMalformed number
refusal_at number Range = LineOutOfRange number

abbrev pub at_line : {A : Type 0} → ℕ → Result A Fault → Result A Refusal
at_line number (Ok x) = Ok x
at_line number (Err f) = Err (refusal_at number f)

-- the text of the line with this number, the first of those that are left
abbrev pub line_text : ℕ → List Line → Result (List ℕ) Refusal
line_text number [] = Err (LineMissing number)
line_text number (l ∷ ls) = cond (readable l) (Ok l.bytes) (Err (LineUnreadable number))

-- what that line says
abbrev pub line_says : {A : Type 0} → (List ℕ → Result A Fault) → ℕ → List Line → Result A Refusal
line_says says number ls = and_then (line_text number ls) (λ body. at_line number (says body))

-- what each of the next lines says, as many as were announced
abbrev pub each_says : {A : Type 0} → (List ℕ → Result A Fault) → ℕ → ℕ → List Line → Result (List A) Refusal
each_says says number zero ls = Ok []
each_says says number (suc n) ls = and_then (line_says says number ls) (λ x. map_ok (λ xs. x ∷ xs) (each_says says (number + 1) n (drop 1 ls)))

-- nothing may follow the last line that was announced
abbrev pub no_more : ℕ → List Line → Plan → Result Plan Refusal
no_more number [] p = Ok p
no_more number (l ∷ ls) p = Err (LineLeftOver number)

-- what the lines after the contents say: the pieces, the orders, the wall rows
abbrev pub bodies : Contents → List Line → Result Plan Refusal
bodies c ls =
    and_then (each_says (says_piece c.axes) 2 c.pieces ls) (λ pieces.
    and_then (each_says (says_before c.axes c.pieces) (2 + c.pieces) c.orders (drop c.pieces ls)) (λ orders.
    and_then (each_says says_wall (2 + c.pieces + c.orders) c.rows (drop (c.pieces + c.orders) ls)) (λ rows.
    no_more (2 + c.pieces + c.orders + c.rows) (drop (c.pieces + c.orders + c.rows) ls)
    (record { axes = c.axes; mode = c.mode; pieces = pieces; orders = orders; rows = rows }))))

-- what the lines of a sheet say: line 1 announces the rest
abbrev pub lines_say : List Line → Result Plan Refusal
lines_say ls = and_then (line_says says_contents 1 ls) (λ c. bodies c (drop 1 ls))

-- what a text says
abbrev pub meaning : List ℕ → Result Plan Refusal
meaning text = cond (nat_lt max_sheet (length text)) (Err SheetTooLong) (lines_say (lines text))
