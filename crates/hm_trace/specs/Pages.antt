-- A TICK AS ROWS OF A PAGE, in HTML.
use Rattle.std.specs.Prelude.{ℕ, ◌*◌, ◌/◌, ◌%◌, nat_lt, if◌then◌else◌, List, [], ◌∷◌, ◌++◌, codes, length, Option, Some, None}
use Rattle.std.specs.Fmt.{decimal}
use Rattle.std.specs.List.{concat, flat_map}
use Rattle.hm_codes.specs.Listing.{Listing}
use Rattle.hm_run.specs.Report.{outcome_line}
use Rattle.hm_run.specs.Timed.{Timed}
use Rattle.hm_run.specs.declared.Outcome.{Outcome}
use Rattle.hm_sched.specs.Printed.{tick_text}
use Rattle.hm_state.specs.State.{regs_of}
use Rattle.hm_text_base.specs.Texts.{separator, hex8}
use Rattle.hm_trace.specs.Changes.{changes}
use Rattle.hm_trace.specs.Lines.{instr_text, mode_text}
use Rattle.hm_trace.specs.Progresses.{progresses}
use Rattle.hm_trace.specs.Stands.{Past}
use Rattle.hm_trace.specs.declared.marks.Mark.{Mark}
use Rattle.hm_trace.specs.declared.marks.Mark.TheVariants.{Nothing, Entry, Return, Both}
use Rattle.hm_trace.specs.declared.page.Tag.{Tag}
use Rattle.hm_trace.specs.declared.page.Tag.TheVariants.{Row, FirstCell, Cell, Bar, Grid, GridEnd, Group, Hue, Boxes, GroupEnd}
use Rattle.hm_trace.specs.declared.progress.Progress.{Progress}

-- a box: of a beat that was done before the tick, of one that the tick did, or of one that is not done
abbrev pub box : ℕ → ℕ → ℕ → List ℕ
box before after k = if nat_lt k before then codes "<i class=d></i>" else (if nat_lt k after then codes "<i class=n></i>" else codes "<i></i>")

-- the four boxes of an instruction
unfoldable pub boxes : ℕ → ℕ → List ℕ
boxes before after = box before after 0 ++ (box before after 1 ++ (box before after 2 ++ box before after 3))

-- the colour of the instruction at an address, as an angle: those of neighbours lie far apart
abbrev pub hue : ℕ → ℕ
hue a = a * 34 % 360

-- the column of the instruction at an address, the left one or the right one: an instruction of two halfwords and the one behind it never share theirs
abbrev pub column : ℕ → ℕ
column a = a / 4 % 2

-- what stands between the texts of a page: the beginning of a row of a class, of its first cell and of another, of a bar, of the cell of instructions
-- and of the cell behind it, of an instruction in a column, of its colour and of its boxes, and its end
unfoldable pub tag_text : Tag → List ℕ
tag_text Row = codes "<tr class="
tag_text FirstCell = codes "><td>"
tag_text Cell = codes "<td>"
tag_text Bar = codes "><td><td colspan=6>"
tag_text Grid = codes "<td><div>"
tag_text GridEnd = codes "</div><td>"
tag_text Group = codes "<span class=c"
tag_text Hue = codes " style=--h:"
tag_text Boxes = codes ">"
tag_text GroupEnd = codes "</span>"

-- an instruction up to its boxes: its column and its colour
unfoldable pub group_start : ℕ → List ℕ
group_start a = tag_text Group ++ (decimal (column a) ++ (tag_text Hue ++ (decimal (hue a) ++ tag_text Boxes)))

-- an address, and what stands there
abbrev pub group_text : Listing → ℕ → List ℕ
group_text listing a = separator ++ (instr_text listing a ++ tag_text GroupEnd)

-- an instruction: its boxes, its address and its text, in its column and its colour
abbrev pub progress_group : Listing → Progress → List ℕ
progress_group listing p = group_start p.addr ++ (boxes p.before p.after ++ group_text listing p.addr)

-- a row that is a bar of a kind, up to its text
abbrev pub bar_start : List ℕ → List ℕ
bar_start kind = tag_text Row ++ (kind ++ tag_text Bar)

-- the bar of a return
abbrev pub return_row : List ℕ
return_row = bar_start (codes "r") ++ codes "return\n"

-- the bar of an entry, with the number of the exception
abbrev pub entry_row : ℕ → List ℕ
entry_row n = bar_start (codes "e") ++ (codes "entry " ++ (decimal n ++ codes "\n"))

-- the bars of what entered or returned, with the number of the exception that entered
abbrev pub mark_rows : Mark → ℕ → List ℕ
mark_rows Nothing n = []
mark_rows Entry n = entry_row n
mark_rows Return n = return_row
mark_rows Both n = return_row ++ entry_row n

-- the bar of how the run ended, where it ended in the tick
abbrev pub ended_row : Option Outcome → List ℕ
ended_row None = []
ended_row (Some o) = bar_start (codes "o") ++ outcome_line (Some o)

-- the cell of the tick, whose row tells how many handlers were active before it
unfoldable pub tick_cell : Past → Timed → List ℕ
tick_cell p y = tag_text Row ++ (codes "d" ++ (decimal (length p.active) ++ (tag_text FirstCell ++ decimal y.ticks)))

-- the cell of its letters and interrupts, and the beginning of that of its instructions
unfoldable pub steps_cell : Past → List ℕ
steps_cell p = tag_text Cell ++ (tick_text p.line ++ tag_text Grid)

-- the end of the cell of its instructions, and the cells of where the run stands after the tick
unfoldable pub where_cells : Timed → List ℕ
where_cells y = tag_text GridEnd ++ (mode_text y.acts ++ (tag_text Cell ++ (hex8 y.config.state.pc ++ (tag_text Cell ++ decimal y.config.n))))

-- the cell of what changed
unfoldable pub changes_cell : Past → Timed → List ℕ
changes_cell p y = tag_text Cell ++ (changes p.regs (regs_of y.config.state) ++ codes "\n")

-- the row of a tick up to its instructions
unfoldable pub row_start : Past → Timed → List ℕ
row_start p y = tick_cell p y ++ steps_cell p

-- the row of a tick behind them
unfoldable pub row_end : Past → Timed → List ℕ
row_end p y = where_cells y ++ changes_cell p y

-- the row of a tick: what it did, its instructions, and what it left
unfoldable pub tick_row : Listing → Past → Mark → Timed → List ℕ
tick_row listing p mark y = row_start p y ++ (flat_map (progress_group listing) (progresses p mark y) ++ row_end p y)

-- THE ROWS OF A TICK
-- the row of the tick, and behind it the bars of what entered or returned and of how the run ended
abbrev pub tick_rows : Listing → Past → Mark → Timed → List ℕ
tick_rows listing p mark y = tick_row listing p mark y ++ (mark_rows mark (regs_of y.config.state).ipsr ++ ended_row y.outcome)

-- the rules of how the page looks: a box of 12 pixels a beat, filled in the instruction's colour where the tick did it, and pale where it was done before;
-- two columns of instructions in each row
abbrev pub style_rules : List (List ℕ)
style_rules =
    codes "body{font:13px/1.4 monospace;margin:1em;color:#222}"
    ∷ codes "table{border-collapse:collapse}"
    ∷ codes "td,th{padding:1px 9px;text-align:left;white-space:nowrap;vertical-align:top;border-bottom:1px solid #e8e8e8}"
    ∷ codes "th{position:sticky;top:0;background:#fff;border-bottom:2px solid #888}"
    ∷ codes "i{display:inline-block;width:12px;height:12px;margin:0 1px 0 0;vertical-align:-2px;box-sizing:border-box;border:1px solid hsl(var(--h) 45% 60%)}"
    ∷ codes "i.n{background:hsl(var(--h) 65% 45%)}"
    ∷ codes "i.d{background:hsl(var(--h) 60% 86%)}"
    ∷ codes "div{display:grid;grid-template-columns:repeat(2,minmax(25em,max-content));grid-auto-flow:dense}"
    ∷ codes ".c0{grid-column:1}"
    ∷ codes ".c1{grid-column:2}"
    ∷ codes "span:nth-child(2):nth-last-child(2),span:nth-child(3){grid-row:2}"
    ∷ codes "span{color:hsl(var(--h) 70% 27%)}"
    ∷ codes ".d1 td{background:#fff5dc}"
    ∷ codes ".d2 td{background:#ffe9b8}"
    ∷ codes ".d3 td,.d4 td,.d5 td,.d6 td,.d7 td,.d8 td{background:#ffdc94}"
    ∷ codes ".e td{background:#b3261e;color:#fff}"
    ∷ codes ".r td{background:#1e6b45;color:#fff}"
    ∷ codes ".o td{background:#333;color:#fff}"
    ∷ []

-- how the page looks
unfoldable pub style : List ℕ
style = codes "<style>" ++ (concat style_rules ++ codes "</style>\n")

-- the first lines of the page
unfoldable pub page_start : List ℕ
page_start = codes "<!doctype html>\n<html lang=en><meta charset=utf-8><title>helium-trace</title>\n"

-- the heads of the columns
abbrev pub column_heads : List (List ℕ)
column_heads =
    codes "<th>tick"
    ∷ codes "<th>letters"
    ∷ codes "<th>beats, in a column by the address: done before the tick are pale, done in it are full"
    ∷ codes "<th>then runs"
    ∷ codes "<th>pc"
    ∷ codes "<th>retired"
    ∷ codes "<th>changed"
    ∷ []

-- the first row of the table
unfoldable pub columns : List ℕ
columns = codes "<table><thead><tr>" ++ (concat column_heads ++ codes "<tbody>\n")

-- what stands before the rows
abbrev pub page_head : List ℕ
page_head = page_start ++ (style ++ columns)

-- what stands behind them: the last tick, where the run has ended
abbrev pub page_tail : Option Outcome → ℕ → List ℕ
page_tail None last = codes "</table>\n"
page_tail (Some o) last = codes "</table><p>end " ++ (decimal last ++ codes "\n")
