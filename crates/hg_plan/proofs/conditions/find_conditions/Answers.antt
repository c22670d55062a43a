use Rattle.std.proofs.Common.{◌∙◌, ◌≤◌, ℕ, [], List, sym, ap, subst, length, arith}
use Rattle.std.specs.List.{flat_map}
use Rattle.hg_model.specs.Conditions.{parts_at, parts_from}
use Rattle.hg_model.specs.Query.{query_of}
use Rattle.hg_model.specs.SelectMeaning.{conditions}
use Rattle.hg_model.specs.declared.trees.Node.{Node}
use Rattle.hg_plan.specs.Testing.{HaveSame, marked}
use Rattle.hg_plan.proofs.Lists.{all_below, placed_length}
use Rattle.hg_plan.proofs.Splitting.{split_same}
use Rattle.hg_plan.proofs.conditions.find_conditions.Goals as goal

pub find_latest-requires-clause-each : goal.find_latest-requires-clause-each
find_latest-requires-clause-each c =
    ap (λ (l : List (ℕ × ℕ)). length l) c.as_slice.ensures.value ∙ placed_length c.args.select.now.nodes.items c.args.places.now.items c.requires.placed
    ∙ sym (ap (λ (l : List Node). length l) c.as_slice-nodes.ensures.value)

pub mark_roots-requires-clause-inside : goal.mark_roots-requires-clause-inside
mark_roots-requires-clause-inside c =
    let few : length c.args.select.now.nodes.items ≤ 112 = omega (arith, ap (λ (l : List Node). length l) c.as_slice-nodes.ensures.value, c.as_slice-nodes.ensures.fits) in
    all_below (conditions (query_of c.args.select.now)) (length c.args.select.now.nodes.items) 112 few c.requires.inside

pub returns-clause-marked : goal.returns-clause-marked
returns-clause-marked c =
    let roots = conditions (query_of c.args.select.now) in
    let f : List Node → ℕ → List ℕ = λ ns. parts_at (parts_from ns []) in
    let split : HaveSame (marked c.split_marked.new.marks) (flat_map (f c.args.select.now.nodes.items) (marked c.mark_roots.new.marks)) =
    subst (λ (ns : List Node). HaveSame (marked c.split_marked.new.marks) (flat_map (f ns) (marked c.mark_roots.new.marks))) c.as_slice-nodes.ensures.value c.split_marked.ensures in
    split_same (f c.args.select.now.nodes.items) (marked c.mark_roots.new.marks) roots (marked c.split_marked.new.marks) split c.mark_roots.ensures
