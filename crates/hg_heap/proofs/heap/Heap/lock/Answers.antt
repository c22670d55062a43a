use Rattle.std.specs.Prelude.{◌≡◌, ℕ, List, true, false, not}
use Rattle.std.proofs.Common.{◌∙◌, sym, ap, subst}
use Rattle.hg_base.specs.Lines.{AreApart}
use Rattle.hg_base.specs.Space.{Space}
use Rattle.hg_pool.specs.Shown.{state_of, max_of}
use Rattle.hg_pool.specs.declared.parts.Parts.{Parts}
use Rattle.hg_heap.specs.Handing.{AreOut, HandsOut, all_back, contents}
use Rattle.hg_heap.specs.Relocating.{IsDamageOf, NothingStands, all_stay}
use Rattle.hg_heap.specs.Resting.{pages_from}
use Rattle.hg_heap.proofs.Locks.{Locks, locks-moved, locks-same, damaged-same, damage-cause, damage-read, damage-names, pin-read, pin-names, none-cause}
use Rattle.hg_heap.proofs.heap.Heap.lock.Goals as goal

pub returns-in-Err-clause-fault : goal.returns-in-Err-clause-fault
returns-in-Err-clause-fault g c = pin-read c.in-Err.fault c.in-Err.ensures.fault

pub returns-in-Err-clause-page : goal.returns-in-Err-clause-page
returns-in-Err-clause-page g c = pin-names _ c.in-Err.fault c.in-Err.ensures.fault

pub read_moves-requires-clause-out : goal.read_moves-requires-clause-out
read_moves-requires-clause-out g c =
    let m = g.M.PageDevice in
    let t = g.T.PageDevice in
    let a : Parts g.row.M.Denot g.row.T.Denot = c.args.pool.now in
    let b : Parts g.row.M.Denot g.row.T.Denot = c.take_pages.new.pool in
    let s : Space = state_of m t a in
    let pages : List ℕ = pages_from s.next c.args.self.first c.args.self.count in
    let h : HandsOut m t a b pages c.in-Ok.chain = c.in-Ok.ensures.ok in
    let e : (state_of m t b).next ≡ s.next = ap (λ (v : Space). v.next) h.state in
    subst (λ n. AreOut m t b (pages_from n c.args.self.first c.args.self.count) c.in-Ok.chain.frames) (sym e) h.each

pub move_pages-requires-clause-out : goal.move_pages-requires-clause-out
move_pages-requires-clause-out g c =
    let m = g.M.PageDevice in
    let t = g.T.PageDevice in
    let a : Parts g.row.M.Denot g.row.T.Denot = c.args.pool.now in
    let b : Parts g.row.M.Denot g.row.T.Denot = c.take_pages.new.pool in
    let s : Space = state_of m t a in
    let pages : List ℕ = pages_from s.next c.args.self.first c.args.self.count in
    let h : HandsOut m t a b pages c.in-Ok.chain = c.in-Ok.ensures.ok in
    let e : (state_of m t b).next ≡ s.next = ap (λ (v : Space). v.next) h.state in
    subst (λ n. AreOut m t b (pages_from n c.args.self.first c.args.self.count) c.in-Ok.chain.frames) (sym e) h.each

pub put_pages-requires-clause-out : goal.put_pages-requires-clause-out
put_pages-requires-clause-out g c =
    let m = g.M.PageDevice in
    let t = g.T.PageDevice in
    let a : Parts g.row.M.Denot g.row.T.Denot = c.args.pool.now in
    let b : Parts g.row.M.Denot g.row.T.Denot = c.take_pages.new.pool in
    let s : Space = state_of m t a in
    let pages : List ℕ = pages_from s.next c.args.self.first c.args.self.count in
    let h : HandsOut m t a b pages c.in-Ok.chain = c.in-Ok.ensures.ok in
    let e : (state_of m t b).next ≡ s.next = ap (λ (v : Space). v.next) h.state in
    subst (λ n. AreOut m t b (pages_from n c.args.self.first c.args.self.count) c.in-Ok.chain.frames) (sym e) h.each

pub read_moves-requires-clause-max : goal.read_moves-requires-clause-max
read_moves-requires-clause-max g c =
    let m = g.M.PageDevice in
    let t = g.T.PageDevice in
    let a : Parts g.row.M.Denot g.row.T.Denot = c.args.pool.now in
    let b : Parts g.row.M.Denot g.row.T.Denot = c.take_pages.new.pool in
    let s : Space = state_of m t a in
    let pages : List ℕ = pages_from s.next c.args.self.first c.args.self.count in
    let h : HandsOut m t a b pages c.in-Ok.chain = c.in-Ok.ensures.ok in
    c.requires.map ∙ sym h.max

pub put_pages-requires-clause-apart : goal.put_pages-requires-clause-apart
put_pages-requires-clause-apart g c =
    let m = g.M.PageDevice in
    let t = g.T.PageDevice in
    let a : Parts g.row.M.Denot g.row.T.Denot = c.args.pool.now in
    let b : Parts g.row.M.Denot g.row.T.Denot = c.take_pages.new.pool in
    let s : Space = state_of m t a in
    let pages : List ℕ = pages_from s.next c.args.self.first c.args.self.count in
    let h : HandsOut m t a b pages c.in-Ok.chain = c.in-Ok.ensures.ok in
    let e : (state_of m t b).next ≡ s.next = ap (λ (v : Space). v.next) h.state in
    subst (λ n. AreApart (pages_from n c.args.self.first c.args.self.count)) (sym e) c.requires.rests.apart

pub returns-in-Ok-true-clause-locked : goal.returns-in-Ok-true-clause-locked
returns-in-Ok-true-clause-locked g c =
    let m = g.M.PageDevice in
    let t = g.T.PageDevice in
    let a : Parts g.row.M.Denot g.row.T.Denot = c.args.pool.now in
    let b : Parts g.row.M.Denot g.row.T.Denot = c.take_pages.new.pool in
    let s : Space = state_of m t a in
    let pages : List ℕ = pages_from s.next c.args.self.first c.args.self.count in
    let h : HandsOut m t a b pages c.in-Ok.chain = c.in-Ok.ensures.ok in
    let moved : true ≡ not (all_stay c.in-Ok.chain.frames) = sym c.in-Ok-true.field-0-test ∙ c.in-Ok-true.ensures.moved in
    let r : Locks m t a b pages c.read_moves.new.map c.move_pages.new.chain = locks-moved m t a b pages c.read_moves.new.map c.in-Ok.chain c.move_pages.new.chain h c.in-Ok-true.ensures.mapped
    c.in-Ok-true.ensures.below c.in-Ok-true.ensures.small moved c.move_pages.ensures.region c.move_pages.ensures.same c.move_pages.ensures.rewritten c.move_pages.ensures.relocated in
    r.locked

pub returns-in-Ok-true-clause-content : goal.returns-in-Ok-true-clause-content
returns-in-Ok-true-clause-content g c =
    let m = g.M.PageDevice in
    let t = g.T.PageDevice in
    let a : Parts g.row.M.Denot g.row.T.Denot = c.args.pool.now in
    let b : Parts g.row.M.Denot g.row.T.Denot = c.take_pages.new.pool in
    let s : Space = state_of m t a in
    let pages : List ℕ = pages_from s.next c.args.self.first c.args.self.count in
    let h : HandsOut m t a b pages c.in-Ok.chain = c.in-Ok.ensures.ok in
    let moved : true ≡ not (all_stay c.in-Ok.chain.frames) = sym c.in-Ok-true.field-0-test ∙ c.in-Ok-true.ensures.moved in
    let r : Locks m t a b pages c.read_moves.new.map c.move_pages.new.chain = locks-moved m t a b pages c.read_moves.new.map c.in-Ok.chain c.move_pages.new.chain h c.in-Ok-true.ensures.mapped
    c.in-Ok-true.ensures.below c.in-Ok-true.ensures.small moved c.move_pages.ensures.region c.move_pages.ensures.same c.move_pages.ensures.rewritten c.move_pages.ensures.relocated in
    r.content

pub returns-in-Ok-true-clause-addresses : goal.returns-in-Ok-true-clause-addresses
returns-in-Ok-true-clause-addresses g c =
    let m = g.M.PageDevice in
    let t = g.T.PageDevice in
    let a : Parts g.row.M.Denot g.row.T.Denot = c.args.pool.now in
    let b : Parts g.row.M.Denot g.row.T.Denot = c.take_pages.new.pool in
    let s : Space = state_of m t a in
    let pages : List ℕ = pages_from s.next c.args.self.first c.args.self.count in
    let h : HandsOut m t a b pages c.in-Ok.chain = c.in-Ok.ensures.ok in
    let moved : true ≡ not (all_stay c.in-Ok.chain.frames) = sym c.in-Ok-true.field-0-test ∙ c.in-Ok-true.ensures.moved in
    let r : Locks m t a b pages c.read_moves.new.map c.move_pages.new.chain = locks-moved m t a b pages c.read_moves.new.map c.in-Ok.chain c.move_pages.new.chain h c.in-Ok-true.ensures.mapped
    c.in-Ok-true.ensures.below c.in-Ok-true.ensures.small moved c.move_pages.ensures.region c.move_pages.ensures.same c.move_pages.ensures.rewritten c.move_pages.ensures.relocated in
    r.addresses

pub returns-in-Ok-true-clause-bytes : goal.returns-in-Ok-true-clause-bytes
returns-in-Ok-true-clause-bytes g c =
    let m = g.M.PageDevice in
    let t = g.T.PageDevice in
    let a : Parts g.row.M.Denot g.row.T.Denot = c.args.pool.now in
    let b : Parts g.row.M.Denot g.row.T.Denot = c.take_pages.new.pool in
    let s : Space = state_of m t a in
    let pages : List ℕ = pages_from s.next c.args.self.first c.args.self.count in
    let h : HandsOut m t a b pages c.in-Ok.chain = c.in-Ok.ensures.ok in
    let moved : true ≡ not (all_stay c.in-Ok.chain.frames) = sym c.in-Ok-true.field-0-test ∙ c.in-Ok-true.ensures.moved in
    let r : Locks m t a b pages c.read_moves.new.map c.move_pages.new.chain = locks-moved m t a b pages c.read_moves.new.map c.in-Ok.chain c.move_pages.new.chain h c.in-Ok-true.ensures.mapped
    c.in-Ok-true.ensures.below c.in-Ok-true.ensures.small moved c.move_pages.ensures.region c.move_pages.ensures.same c.move_pages.ensures.rewritten c.move_pages.ensures.relocated in
    r.bytes

pub returns-in-Ok-true-clause-cause : goal.returns-in-Ok-true-clause-cause
returns-in-Ok-true-clause-cause g c =
    let m = g.M.PageDevice in
    let t = g.T.PageDevice in
    let a : Parts g.row.M.Denot g.row.T.Denot = c.args.pool.now in
    let b : Parts g.row.M.Denot g.row.T.Denot = c.take_pages.new.pool in
    let s : Space = state_of m t a in
    let pages : List ℕ = pages_from s.next c.args.self.first c.args.self.count in
    let h : HandsOut m t a b pages c.in-Ok.chain = c.in-Ok.ensures.ok in
    none-cause s (state_of m t b) (ap (λ (v : Space). v.counts) h.state)

pub returns-in-Ok-false-clause-locked : goal.returns-in-Ok-false-clause-locked
returns-in-Ok-false-clause-locked g c =
    let m = g.M.PageDevice in
    let t = g.T.PageDevice in
    let a : Parts g.row.M.Denot g.row.T.Denot = c.args.pool.now in
    let b : Parts g.row.M.Denot g.row.T.Denot = c.take_pages.new.pool in
    let s : Space = state_of m t a in
    let pages : List ℕ = pages_from s.next c.args.self.first c.args.self.count in
    let h : HandsOut m t a b pages c.in-Ok.chain = c.in-Ok.ensures.ok in
    let moved : false ≡ not (all_stay c.in-Ok.chain.frames) = sym c.in-Ok-false.field-0-test ∙ c.in-Ok-false.ensures.moved in
    let r : Locks m t a b pages c.read_moves.new.map c.in-Ok.chain = locks-same m t a b pages c.read_moves.new.map c.in-Ok.chain h c.in-Ok-false.ensures.below moved in
    r.locked

pub returns-in-Ok-false-clause-content : goal.returns-in-Ok-false-clause-content
returns-in-Ok-false-clause-content g c =
    let m = g.M.PageDevice in
    let t = g.T.PageDevice in
    let a : Parts g.row.M.Denot g.row.T.Denot = c.args.pool.now in
    let b : Parts g.row.M.Denot g.row.T.Denot = c.take_pages.new.pool in
    let s : Space = state_of m t a in
    let pages : List ℕ = pages_from s.next c.args.self.first c.args.self.count in
    let h : HandsOut m t a b pages c.in-Ok.chain = c.in-Ok.ensures.ok in
    let moved : false ≡ not (all_stay c.in-Ok.chain.frames) = sym c.in-Ok-false.field-0-test ∙ c.in-Ok-false.ensures.moved in
    let r : Locks m t a b pages c.read_moves.new.map c.in-Ok.chain = locks-same m t a b pages c.read_moves.new.map c.in-Ok.chain h c.in-Ok-false.ensures.below moved in
    r.content

pub returns-in-Ok-false-clause-addresses : goal.returns-in-Ok-false-clause-addresses
returns-in-Ok-false-clause-addresses g c =
    let m = g.M.PageDevice in
    let t = g.T.PageDevice in
    let a : Parts g.row.M.Denot g.row.T.Denot = c.args.pool.now in
    let b : Parts g.row.M.Denot g.row.T.Denot = c.take_pages.new.pool in
    let s : Space = state_of m t a in
    let pages : List ℕ = pages_from s.next c.args.self.first c.args.self.count in
    let h : HandsOut m t a b pages c.in-Ok.chain = c.in-Ok.ensures.ok in
    let moved : false ≡ not (all_stay c.in-Ok.chain.frames) = sym c.in-Ok-false.field-0-test ∙ c.in-Ok-false.ensures.moved in
    let r : Locks m t a b pages c.read_moves.new.map c.in-Ok.chain = locks-same m t a b pages c.read_moves.new.map c.in-Ok.chain h c.in-Ok-false.ensures.below moved in
    r.addresses

pub returns-in-Ok-false-clause-bytes : goal.returns-in-Ok-false-clause-bytes
returns-in-Ok-false-clause-bytes g c =
    let m = g.M.PageDevice in
    let t = g.T.PageDevice in
    let a : Parts g.row.M.Denot g.row.T.Denot = c.args.pool.now in
    let b : Parts g.row.M.Denot g.row.T.Denot = c.take_pages.new.pool in
    let s : Space = state_of m t a in
    let pages : List ℕ = pages_from s.next c.args.self.first c.args.self.count in
    let h : HandsOut m t a b pages c.in-Ok.chain = c.in-Ok.ensures.ok in
    let moved : false ≡ not (all_stay c.in-Ok.chain.frames) = sym c.in-Ok-false.field-0-test ∙ c.in-Ok-false.ensures.moved in
    let r : Locks m t a b pages c.read_moves.new.map c.in-Ok.chain = locks-same m t a b pages c.read_moves.new.map c.in-Ok.chain h c.in-Ok-false.ensures.below moved in
    r.bytes

pub returns-in-Ok-false-clause-cause : goal.returns-in-Ok-false-clause-cause
returns-in-Ok-false-clause-cause g c =
    let m = g.M.PageDevice in
    let t = g.T.PageDevice in
    let a : Parts g.row.M.Denot g.row.T.Denot = c.args.pool.now in
    let b : Parts g.row.M.Denot g.row.T.Denot = c.take_pages.new.pool in
    let s : Space = state_of m t a in
    let pages : List ℕ = pages_from s.next c.args.self.first c.args.self.count in
    let h : HandsOut m t a b pages c.in-Ok.chain = c.in-Ok.ensures.ok in
    none-cause s (state_of m t b) (ap (λ (v : Space). v.counts) h.state)

pub returns-in-Err-read_moves-clause-err : goal.returns-in-Err-read_moves-clause-err
returns-in-Err-read_moves-clause-err g c =
    let m = g.M.PageDevice in
    let t = g.T.PageDevice in
    let a : Parts g.row.M.Denot g.row.T.Denot = c.args.pool.now in
    let b : Parts g.row.M.Denot g.row.T.Denot = c.take_pages.new.pool in
    let s : Space = state_of m t a in
    let pages : List ℕ = pages_from s.next c.args.self.first c.args.self.count in
    let h : HandsOut m t a b pages c.in-Ok.chain = c.in-Ok.ensures.ok in
    let e : (state_of m t b).next ≡ s.next = ap (λ (v : Space). v.next) h.state in
    let z : Parts g.row.M.Denot g.row.T.Denot = c.put_pages.new.pool in
    let same : state_of m t z ≡ s = damaged-same m t a b z pages c.in-Ok.chain c.requires.rests h
    (c.put_pages.ensures.state ∙ ap (λ n. all_back (state_of m t b) (pages_from n c.args.self.first c.args.self.count) (contents c.in-Ok.chain.frames)) e) in
    let d : IsDamageOf pages c.in-Err-read_moves.fault = subst (λ n. IsDamageOf (pages_from n c.args.self.first c.args.self.count) c.in-Err-read_moves.fault) e c.in-Err-read_moves.ensures.err in
    record { counts = s.counts; after = same }

pub returns-in-Err-read_moves-clause-cause : goal.returns-in-Err-read_moves-clause-cause
returns-in-Err-read_moves-clause-cause g c =
    let m = g.M.PageDevice in
    let t = g.T.PageDevice in
    let a : Parts g.row.M.Denot g.row.T.Denot = c.args.pool.now in
    let b : Parts g.row.M.Denot g.row.T.Denot = c.take_pages.new.pool in
    let s : Space = state_of m t a in
    let pages : List ℕ = pages_from s.next c.args.self.first c.args.self.count in
    let h : HandsOut m t a b pages c.in-Ok.chain = c.in-Ok.ensures.ok in
    let e : (state_of m t b).next ≡ s.next = ap (λ (v : Space). v.next) h.state in
    let z : Parts g.row.M.Denot g.row.T.Denot = c.put_pages.new.pool in
    let same : state_of m t z ≡ s = damaged-same m t a b z pages c.in-Ok.chain c.requires.rests h
    (c.put_pages.ensures.state ∙ ap (λ n. all_back (state_of m t b) (pages_from n c.args.self.first c.args.self.count) (contents c.in-Ok.chain.frames)) e) in
    let d : IsDamageOf pages c.in-Err-read_moves.fault = subst (λ n. IsDamageOf (pages_from n c.args.self.first c.args.self.count) c.in-Err-read_moves.fault) e c.in-Err-read_moves.ensures.err in
    damage-cause m t a b z pages (max_of a) c.in-Ok.chain c.in-Err-read_moves.fault h same d
    (subst (λ n. NothingStands n (contents c.in-Ok.chain.frames)) c.requires.map c.in-Err-read_moves.ensures.wrong) c.requires.content

pub returns-in-Err-read_moves-clause-fault : goal.returns-in-Err-read_moves-clause-fault
returns-in-Err-read_moves-clause-fault g c =
    let m = g.M.PageDevice in
    let t = g.T.PageDevice in
    let a : Parts g.row.M.Denot g.row.T.Denot = c.args.pool.now in
    let b : Parts g.row.M.Denot g.row.T.Denot = c.take_pages.new.pool in
    let s : Space = state_of m t a in
    let pages : List ℕ = pages_from s.next c.args.self.first c.args.self.count in
    let h : HandsOut m t a b pages c.in-Ok.chain = c.in-Ok.ensures.ok in
    let e : (state_of m t b).next ≡ s.next = ap (λ (v : Space). v.next) h.state in
    let z : Parts g.row.M.Denot g.row.T.Denot = c.put_pages.new.pool in
    let same : state_of m t z ≡ s = damaged-same m t a b z pages c.in-Ok.chain c.requires.rests h
    (c.put_pages.ensures.state ∙ ap (λ n. all_back (state_of m t b) (pages_from n c.args.self.first c.args.self.count) (contents c.in-Ok.chain.frames)) e) in
    let d : IsDamageOf pages c.in-Err-read_moves.fault = subst (λ n. IsDamageOf (pages_from n c.args.self.first c.args.self.count) c.in-Err-read_moves.fault) e c.in-Err-read_moves.ensures.err in
    damage-read pages c.in-Err-read_moves.fault d

pub returns-in-Err-read_moves-clause-page : goal.returns-in-Err-read_moves-clause-page
returns-in-Err-read_moves-clause-page g c =
    let m = g.M.PageDevice in
    let t = g.T.PageDevice in
    let a : Parts g.row.M.Denot g.row.T.Denot = c.args.pool.now in
    let b : Parts g.row.M.Denot g.row.T.Denot = c.take_pages.new.pool in
    let s : Space = state_of m t a in
    let pages : List ℕ = pages_from s.next c.args.self.first c.args.self.count in
    let h : HandsOut m t a b pages c.in-Ok.chain = c.in-Ok.ensures.ok in
    let e : (state_of m t b).next ≡ s.next = ap (λ (v : Space). v.next) h.state in
    let z : Parts g.row.M.Denot g.row.T.Denot = c.put_pages.new.pool in
    let same : state_of m t z ≡ s = damaged-same m t a b z pages c.in-Ok.chain c.requires.rests h
    (c.put_pages.ensures.state ∙ ap (λ n. all_back (state_of m t b) (pages_from n c.args.self.first c.args.self.count) (contents c.in-Ok.chain.frames)) e) in
    let d : IsDamageOf pages c.in-Err-read_moves.fault = subst (λ n. IsDamageOf (pages_from n c.args.self.first c.args.self.count) c.in-Err-read_moves.fault) e c.in-Err-read_moves.ensures.err in
    damage-names pages c.in-Err-read_moves.fault d
