use Rattle.std.specs.Prelude.{ℕ, List, ◌++◌}
use Rattle.std.proofs.Common.{sym, subst}
use Rattle.std.proofs.lemmas.Result.{IfOk-weaker}
use Rattle.hg_base.specs.Space.{Space}
use Rattle.hg_base.specs.declared.Table.{Table}
use Rattle.hg_table.specs.Steps.{Looks, PutsRecord}
use Rattle.hg_table.proofs.Walking.{looks_same}
use Rattle.hg_table.proofs.Inserting.{chain_last, last_page, inserts_last, stored_parts, looked_chain, adds_behind}
use Rattle.hg_table.proofs.Chaining.{inserts_new}
use Rattle.hg_table.proofs.insertion.insert.Goals as goal
use Rattle.hg_table.proofs.insertion.insert.Goals.{in-Some+in_ok-slot+in_default-2, in_default}

pub put_on-requires-clause-plain : goal.put_on-requires-clause-plain
put_on-requires-clause-plain g c =
    chain_last (g.S.Pages.state c.args.space.now) c.args.table.now c.requires.chain.0 c.in-Some.last c.requires.chain.1 c.in-Some.is

pub put_on-requires-clause-sound : goal.put_on-requires-clause-sound
put_on-requires-clause-sound g c = λ told.
    last_page (g.S.Pages.state c.args.space.now) c.args.table.now c.in-Some.last (c.requires.table told) c.in-Some.is

pub returns-in-Some-2-clause-ok : goal.returns-in-Some-2-clause-ok
returns-in-Some-2-clause-ok g c = λ pages chain.
    let a : Space = g.S.Pages.state c.args.space.now in
    let b : Space = g.S.Pages.state c.put_on.new.space in
    let r : List ℕ = c.front_of-front.result ++ c.bytes.result.now in
    inserts_last a b c.args.table.now c.in-Some.last c.in-Some-2.slot r c.args.row.now c.args.born.0 c.in-Some.is
    (subst (PutsRecord a b c.in-Some.last r) c.in-Some-2.is c.in_ok-slot.ensures.put)
    (stored_parts c.front_of-front.result c.bytes.result.now c.args.row.now c.args.born.0 c.front_of-front.ensures.bytes c.front_of-front.ensures.small c.bytes.ensures.bytes c.bytes.ensures.storable) pages chain

looked : (g : _) (c : goal.After-bytes-2 g) → Looks (g.S.Pages.state c.args.space.now) (g.S.Pages.state c.match-table.space)
looked g c = elim c.match-table.branch [
  | in-Some+in_ok-slot+in_default-2 w ↦
      let a : Space = g.S.Pages.state c.args.space.now in
      let b : Space = g.S.Pages.state w.put_on.new.space in
      let put = subst (PutsRecord a b w.in-Some.last (c.front_of-front.result ++ w.bytes.result.now)) w.in_default-2.is w.in_ok-slot.ensures.put in
      subst (λ s. Looks a (g.S.Pages.state s)) (sym w.space-is) put.looks
  | in_default w ↦
      let a : Space = g.S.Pages.state c.args.space.now in
      subst (λ s. Looks a (g.S.Pages.state s)) (sym w.space-is) (looks_same a c.requires.out)
]

pub add_page-requires-clause-chain : goal.add_page-requires-clause-chain
add_page-requires-clause-chain g c =
    (c.requires.chain.0, looked_chain (g.S.Pages.state c.args.space.now) (g.S.Pages.state c.match-table.space) c.args.table.now c.requires.chain.0 (looked g c) c.requires.chain.1)

pub returns-clause-ok : goal.returns-clause-ok
returns-clause-ok g c =
    let a : Space = g.S.Pages.state c.args.space.now in
    let m : Space = g.S.Pages.state c.match-table.space in
    let b : Space = g.S.Pages.state c.add_page.new.space in
    let t : Table = c.args.table.now in
    let r : List ℕ = c.front_of-front.result ++ c.bytes-2.result.now in
    let k : Looks a m = elim c.match-table.branch [
      | in-Some+in_ok-slot+in_default-2 w ↦
          let s : Space = g.S.Pages.state w.put_on.new.space in
          let put = subst (PutsRecord a s w.in-Some.last (c.front_of-front.result ++ w.bytes.result.now)) w.in_default-2.is w.in_ok-slot.ensures.put in
          subst (λ z. Looks a (g.S.Pages.state z)) (sym w.space-is) put.looks
      | in_default w ↦ subst (λ z. Looks a (g.S.Pages.state z)) (sym w.space-is) (looks_same a c.requires.out)
    ] in
    IfOk-weaker c.add_page.result _ _
    (λ place h pages chain.
    inserts_new a b t c.add_page.new.table r place c.args.row.now c.args.born.0
    (adds_behind a m b t c.add_page.new.table r place k (λ l is. chain_last a t pages l chain is) h)
    (stored_parts c.front_of-front.result c.bytes-2.result.now c.args.row.now c.args.born.0 c.front_of-front.ensures.bytes c.front_of-front.ensures.small c.bytes-2.ensures.bytes c.bytes-2.ensures.storable) pages chain)
    c.add_page.ensures.made
