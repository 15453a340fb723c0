-- Lines written out: what the definitions of the lines come to on examples. Whole listings are in the crate `readings`.
use Rattle.std.specs.Prelude.{◌≡◌, ◌++◌, codes}
use Rattle.protocol.specs.declared.tally.Report.TheVariants.{Settled, Awaits}
use Rattle.listing.specs.Lines.{line_end, plan_line, tally_line, board_line, copy_line, refusal_line}

pub record LineReadings : Type 0 where
  pub plan : plan_line 8 3 1 4096 0 ≡ codes "boards 8 overlap 3 kind 1 copies 4096 edges 0" ++ line_end
  pub tally :
      tally_line (record { turns = 800000; puts = 5600000; lost = 10; accepted = 0 })
      ≡ codes "turns 800000 puts 5600000 lost 10 accepted 0" ++ line_end
  pub settled : board_line 7 Settled ≡ codes "7 settled" ++ line_end
  pub awaits : board_line 2 (Awaits 6 3) ≡ codes "2 awaits 6" ++ line_end
  pub copy :
      copy_line (record { board = 1; vertex = 1023 }) (record { x = 4294967295; y = 10; z = 0 })
      ≡ codes "1 1023 4294967295 10 0" ++ line_end
  pub refusal : refusal_line 8 4097 ≡ codes "refused 8 at 4097" ++ line_end
