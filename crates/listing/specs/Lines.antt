-- The bytes of each line. Numbers are written in decimal with no leading zero, and a line ends with byte 10.
use Rattle.std.specs.Prelude.{ℕ, List, [], ◌∷◌, ◌++◌, codes, decimal}
use Prim.Native.String.{String}
use Rattle.element.specs.declared.words.Words.{Words}
use Rattle.plan.specs.declared.records.CopyRecord.{CopyRecord}
use Rattle.protocol.specs.declared.tally.Tally.{Tally}
use Rattle.protocol.specs.declared.tally.Report.{Report}
use Rattle.protocol.specs.declared.tally.Report.TheVariants.{Settled, Awaits}

abbrev pub line_end : List ℕ
line_end = 10 ∷ []

-- a number after the text that names it
abbrev pub field : String → ℕ → List ℕ
field text n = codes text ++ decimal n

-- as `boards 2 overlap 0 kind 2 copies 6 edges 2`
abbrev pub plan_line : ℕ → ℕ → ℕ → ℕ → ℕ → List ℕ
plan_line boards overlap kind copies edges =
    field "boards " boards ++ field " overlap " overlap ++ field " kind " kind ++ field " copies " copies
    ++ field " edges " edges ++ line_end

-- as `turns 8 puts 7 lost 0 accepted 4`
abbrev pub tally_line : Tally → List ℕ
tally_line t =
    field "turns " t.turns ++ field " puts " t.puts ++ field " lost " t.lost
    ++ field " accepted " t.accepted ++ line_end

-- as ` settled`, or ` awaits 0` with the number of the board whose items are lacking
abbrev pub report_text : Report → List ℕ
report_text Settled = codes " settled"
report_text (Awaits board _) = field " awaits " board

-- as `0 settled` or `1 awaits 0`: a board's number, and what is reported of it
abbrev pub board_line : ℕ → Report → List ℕ
board_line board report = decimal board ++ report_text report ++ line_end

-- as `1 3 9 0 0`: board, vertex and three words
abbrev pub copy_line : CopyRecord → Words → List ℕ
copy_line c w =
    decimal c.board ++ field " " c.vertex ++ field " " w.x ++ field " " w.y ++ field " " w.z
    ++ line_end

-- as `refused 5 at 16`: a refusal's number, and the last of its numbers
abbrev pub refusal_line : ℕ → ℕ → List ℕ
refusal_line number last = field "refused " number ++ field " at " last ++ line_end
