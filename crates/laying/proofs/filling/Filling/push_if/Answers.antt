-- One record, or none.
use Rattle.std.proofs.Common.{◌+◌, ◌<◌, length, sym, subst, refl, ap, ◌∙◌, arith}
use Rattle.laying.specs.Filled.{Appends}
use Rattle.laying.specs.Rows.{only, placed}
use Rattle.laying.proofs.Filled.{appends_none}
use Rattle.laying.proofs.Gather.{placed_one}
use Rattle.laying.proofs.filling.Filling.push_if.Goals as goal

pub returns-then-wanted : goal.returns-then-wanted
returns-then-wanted g c =
    let f = c.args.self.now in
    let one = ap (λ b. only b c.args.entry) c.if-wanted.true in
    let fits : f.len < length f.out.now = omega (arith, c.requires, ap length one) in
    record {
      len = ap (λ l. f.len + length l) (sym one);
      written = placed_one f.out.now f.len c.args.entry fits ∙ ap (placed f.out.now f.len) (sym one);
      same = refl;
    }

pub returns-else-wanted : goal.returns-else-wanted
returns-else-wanted g c =
    let f = c.args.self.now in
    subst (Appends f f) (sym (ap (λ b. only b c.args.entry) c.if-wanted.false)) (appends_none f)
