-- A link's edges stand from its start to the next.
use Rattle.std.proofs.Common.{ℕ, ◌+◌, ◌<◌, ◌≤◌, length, get_or, arith}
use Rattle.plan.specs.declared.view.PlanView.{PlanView}
use Rattle.plan.proofs.Plans.{few_edges, link_bounds, link_part}
use Rattle.plan.proofs.view.PlanView.on_link.Goals as goal

bounds : (v : PlanView) (x : ℕ) → x < 64
    → (get_or v.starts x 0 ≤ get_or v.starts (x + 1) 0) × (get_or v.starts (x + 1) 0 ≤ length v.edges.now)
bounds v x = link_bounds v.boards v.copies.now v.edges.now v.sound v.starts v.placed x

pub offset_bounds-edges-self : goal.offset_bounds-edges-self
offset_bounds-edges-self c =
    let v = c.args.self.now in
    omega (arith, bounds v c.args.link c.requires, few_edges v.boards v.copies.now v.edges.now v.sound)

pub slice_bounds-result-count : goal.slice_bounds-result-count
slice_bounds-result-count c = (bounds c.args.self.now c.args.link c.requires).0

pub slice_bounds-result-start : goal.slice_bounds-result-start
slice_bounds-result-start c = (bounds c.args.self.now c.args.link c.requires).0

pub slice_bounds-result-end : goal.slice_bounds-result-end
slice_bounds-result-end c = (bounds c.args.self.now c.args.link c.requires).1

pub returns : goal.returns
returns c =
    let v = c.args.self.now in
    link_part v.boards v.copies.now v.edges.now v.sound v.starts v.placed c.args.link c.requires
