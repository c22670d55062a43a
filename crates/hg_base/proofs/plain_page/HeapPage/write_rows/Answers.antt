use Rattle.std.proofs.Common.{◌≡◌, ◌∙◌, ap, sym, subst, arith, List, ◌++◌, length, take, Some}
use Rattle.std.proofs.lemmas.List.{take_all}
use Rattle.hg_base.specs.Content.{Object, payloads_of}
use Rattle.hg_base.specs.HeapStates.{HoldsPayloads}
use Rattle.hg_base.specs.PlainDrains.{rows_bytes, row_bytes, page_bytes, row-next, none-next, row-room, rows-few, page-holds}
use Rattle.hg_base.specs.PlainPageLaws.{entries-of, end-of}
use Rattle.hg_base.proofs.plain_page.HeapPage.write_rows.Goals as goal
use Rattle.hg_base.proofs.plain_page.HeapPage.write_rows.Goals.{in-Some, in-None}

pub payload-requires : goal.payload-requires
payload-requires c =
    let n = entries-of c.self.inside c.args.self.now c.self.view_is in let l = c.len-index-end.ensures in let t = c.loop-index-test.true in omega arith

pub push_row-requires : goal.push_row-requires
push_row-requires c =
    let e = end-of c.self.inside c.args.self.now c.self.invariant c.self.view_is in
    let b = c.self.invariant.below in
    let i = ap length c.loop-index.invariant in
    let r = row-room c.args.self.now c.loop-index.index c.in-Some.payload.now c.in-Some.ensures in
    omega arith

pub loop-index-preserved : goal.loop-index-preserved
loop-index-preserved c = elim c.match-payload.branch [
  | in-Some w ↦
      (ap (λ r. r.items) w.rows-is
      ∙ w.push_row.ensures
      ∙ ap (λ l. l ++ row_bytes w.in-Some.payload.now) c.loop-index.invariant
      ∙ sym (row-next c.args.self.now c.loop-index.index w.in-Some.payload.now w.in-Some.ensures))
  | in-None w ↦ (ap (λ r. r.items) w.rows-is ∙ c.loop-index.invariant ∙ sym (none-next c.args.self.now c.loop-index.index w.in-None.ensures))
]

pub write_page-requires-clause-few : goal.write_page-requires-clause-few
write_page-requires-clause-few c =
    let v : List Object = c.args.self.now in
    let n = entries-of c.self.inside v c.self.view_is in
    let l = c.len-index-end.ensures in
    let t = c.loop-index-test.false in
    let all : take c.loop-index.index v ≡ v = take_all c.loop-index.index v (omega arith) in
    let e = end-of c.self.inside v c.self.invariant c.self.view_is in
    let b = c.self.invariant.below in
    let f = rows-few v (omega arith) in
    let s = ap length (c.as_slice.ensures.value ∙ c.loop-index.invariant ∙ ap rows_bytes all) in
    omega arith

pub returns : goal.returns
returns c =
    let v : List Object = c.args.self.now in
    let n = entries-of c.self.inside v c.self.view_is in
    let l = c.len-index-end.ensures in
    let t = c.loop-index-test.false in
    let all : take c.loop-index.index v ≡ v = take_all c.loop-index.index v (omega arith) in
    let e = end-of c.self.inside v c.self.invariant c.self.view_is in
    let b = c.self.invariant.below in
    let s = c.as_slice.ensures.value ∙ c.loop-index.invariant ∙ ap rows_bytes all in
    λ each. subst (λ o. HoldsPayloads (Some (payloads_of v)) o) (sym (c.write_page.ensures ∙ ap page_bytes s)) (page-holds v (omega arith) each)
