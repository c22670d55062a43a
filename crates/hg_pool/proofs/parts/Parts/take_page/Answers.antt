use Rattle.std.proofs.Common.{◌≡◌, ℕ, ◌+◌, ◌<◌, ◌∙◌, ap, sym, subst, refl, Ok, None, Some, false, length, arith, List, [], ◌∷◌, ◌||◌, Option}
use Rattle.hg_base.specs.Space.{Space, key}
use Rattle.hg_base.specs.declared.File.{File}
use Rattle.hg_base.specs.declared.PageId.{PageId}
use Rattle.hg_clock.specs.Clock.{ClockState, score_of}
use Rattle.hg_raw.specs.Frames.{RegionId, ChainSeen, bytes_of}
use Rattle.hg_pool.specs.Clocking.{used}
use Rattle.hg_pool.specs.Disks.{Disks, disks_in}
use Rattle.hg_pool.specs.FrameLaws.{frame-kept}
use Rattle.hg_pool.specs.Keeping.{with_frame, lent_frame, IsFoundAt}
use Rattle.hg_pool.specs.Lending.{IsHandedOut}
use Rattle.hg_pool.specs.Picture.{shown, picture_of, frame_at, place_at}
use Rattle.hg_pool.specs.Seen.{Frame}
use Rattle.hg_pool.specs.Shown.{frame_of, page_in, SameFrames, KeepsFrames}
use Rattle.hg_pool.specs.Sound.{IsSound}
use Rattle.hg_pool.specs.Work.{evicted, owed_of}
use Rattle.hg_pool.specs.declared.parts.Parts.{Parts}
use Rattle.hg_pool.specs.declared.store.Store.{Store}
use Rattle.hg_pool.proofs.Asking.{owed-some}
use Rattle.hg_pool.proofs.Calling.{still-free, still-home}
use Rattle.hg_pool.proofs.HandedOut.{hands-out, handed-behind, more-room}
use Rattle.hg_pool.proofs.Handing.{taken-keeps, refused-keeps}
use Rattle.hg_pool.proofs.Hands.{comes-in, used-seven}
use Rattle.hg_pool.proofs.Moves.{one-bytes}
use Rattle.hg_pool.proofs.Passing.{ticks, frame-set}
use Rattle.hg_pool.proofs.Staying.{same-then, but-then-same, owing-kept}
use Rattle.hg_pool.specs.Shown.{owed, OwesSame}
use Rattle.hg_pool.proofs.Steps.{bool-not}
use Rattle.hg_pool.proofs.parts.Parts.take_page.Goals as goal

-- the bytes that the chain has
chain-bytes : (c : ChainSeen) (r : RegionId) (i f : ℕ) (b : List ℕ) → c ≡ record { region = r; frames = (i, b) ∷ [] } → f ≡ i → bytes_of c.frames f ≡ b
chain-bytes c r i f b e n = ap (λ (k : ChainSeen). bytes_of k.frames f) e ∙ ap (λ (k : ℕ). bytes_of ((i, b) ∷ []) k) n ∙ one-bytes i b

-- a page that owes its device nothing is as it is there
owes-none : (x : Frame) (p : PageId) → x.page ≡ Some p → owed_of x ≡ None → x.dirty ≡ false
owes-none x p e none = bool-not x.dirty (λ t. apart (sym none ∙ owed-some x p e t))
  where
    apart : ◌≡◌ {A = Option File} None (Some p.file) → ⊥
    apart h = absurd (cc)

pub returns-clause-whole : goal.returns-clause-whole
returns-clause-whole g c =
    let s : Store = c.args.self.now.store in
    let d : Disks = disks_in g.M.PageDevice g.T.PageDevice c.args.self.now.devices in
    let e : Disks = disks_in g.M.PageDevice g.T.PageDevice c.bring.new.self.devices in
    let z : Store = c.bring.new.self.store in
    let i : ℕ = c.in_ok-at.at in
    let free : (frame_at z.frames.items i).pinned ≡ false = still-free d e s z (Ok i) i c.args.page c.in_ok-at.ensures.passes c.in_ok-at.ensures.found c.requires.not_pinned in
    let home : (frame_at z.frames.items i).lent ≡ false = still-home d e s z (Ok i) i c.args.page c.in_ok-at.ensures.passes c.in_ok-at.ensures.found c.requires.not_out in
    let few : z.lent + 8 < length z.frames.items = (let l = c.in_ok-at.ensures.passes.stock.lent in let k = ap (λ (v : Space). v.heaps.current) c.in_ok-at.ensures.passes.same.after in let m = c.requires.few in omega (arith, l, k, m)) in
    let out = hands-out e z i c.args.page c.in_ok-at.ensures.passes.whole c.in_ok-at.ensures.found free home few in
    let P : Store → Type 0 = λ y. IsSound e y in subst P (sym c.lend.ensures.after) out.whole

pub returns-clause-ok : goal.returns-clause-ok
returns-clause-ok g c =
    let s : Store = c.args.self.now.store in
    let d : Disks = disks_in g.M.PageDevice g.T.PageDevice c.args.self.now.devices in
    let e : Disks = disks_in g.M.PageDevice g.T.PageDevice c.bring.new.self.devices in
    let z : Store = c.bring.new.self.store in
    let i : ℕ = c.in_ok-at.at in
    let free : (frame_at z.frames.items i).pinned ≡ false = still-free d e s z (Ok i) i c.args.page c.in_ok-at.ensures.passes c.in_ok-at.ensures.found c.requires.not_pinned in
    let home : (frame_at z.frames.items i).lent ≡ false = still-home d e s z (Ok i) i c.args.page c.in_ok-at.ensures.passes c.in_ok-at.ensures.found c.requires.not_out in
    let few : z.lent + 8 < length z.frames.items = (let l = c.in_ok-at.ensures.passes.stock.lent in let k = ap (λ (v : Space). v.heaps.current) c.in_ok-at.ensures.passes.same.after in let m = c.requires.few in omega (arith, l, k, m)) in
    let out = hands-out e z i c.args.page c.in_ok-at.ensures.passes.whole c.in_ok-at.ensures.found free home few in
    let place : place_at c.lend.new.self.places (key c.args.page) ≡ i = ap (λ (y : Store). place_at y.places (key c.args.page)) c.lend.ensures.after ∙ sym c.in_ok-at.ensures.found.place in
    let bytes = chain-bytes c.lend.result z.frames.region i (place_at c.lend.new.self.places (key c.args.page)) (frame_at z.frames.items i).bytes c.lend.ensures.chain place in
    let P : Store → Type 0 = λ y. IsHandedOut (shown (picture_of d s)) (shown (picture_of e y)) (key c.args.page) (frame_at z.frames.items i).bytes in
    let Q : List ℕ → Type 0 = λ b. IsHandedOut (shown (picture_of d s)) (shown (picture_of e c.lend.new.self)) (key c.args.page) b in
    subst Q (sym bytes) (subst P (sym c.lend.ensures.after) (handed-behind (shown (picture_of d s)) (shown (picture_of e z)) _ (key c.args.page) _ c.in_ok-at.ensures.passes.same out.ok))

pub returns-clause-chain : goal.returns-clause-chain
returns-clause-chain g c =
    let z : Store = c.bring.new.self.store in
    let i : ℕ = c.in_ok-at.at in
    let place : place_at c.lend.new.self.places (key c.args.page) ≡ i = ap (λ (y : Store). place_at y.places (key c.args.page)) c.lend.ensures.after ∙ sym c.in_ok-at.ensures.found.place in
    let bytes = chain-bytes c.lend.result z.frames.region i (place_at c.lend.new.self.places (key c.args.page)) (frame_at z.frames.items i).bytes c.lend.ensures.chain place in record {
      region = ap (λ (k : ChainSeen). k.region) c.lend.ensures.chain ∙ sym (ap (λ (y : Store). y.frames.region) c.lend.ensures.after);
      just = ap (λ (k : ChainSeen). k.frames) c.lend.ensures.chain ∙ (λ j. (sym place j, sym bytes j) ∷ []);
    }

pub returns-clause-as_on_device : goal.returns-clause-as_on_device
returns-clause-as_on_device g c =
    let s : Store = c.args.self.now.store in
    let d : Disks = disks_in g.M.PageDevice g.T.PageDevice c.args.self.now.devices in
    let e : Disks = disks_in g.M.PageDevice g.T.PageDevice c.bring.new.self.devices in
    let z : Store = c.bring.new.self.store in
    let i : ℕ = c.in_ok-at.at in
    let free : (frame_at z.frames.items i).pinned ≡ false = still-free d e s z (Ok i) i c.args.page c.in_ok-at.ensures.passes c.in_ok-at.ensures.found c.requires.not_pinned in
    let home : (frame_at z.frames.items i).lent ≡ false = still-home d e s z (Ok i) i c.args.page c.in_ok-at.ensures.passes c.in_ok-at.ensures.found c.requires.not_out in
    let place : place_at c.lend.new.self.places (key c.args.page) ≡ i = ap (λ (y : Store). place_at y.places (key c.args.page)) c.lend.ensures.after ∙ sym c.in_ok-at.ensures.found.place in
    let x : Frame = frame_at z.frames.items i in
    let bytes = chain-bytes c.lend.result z.frames.region i (place_at c.lend.new.self.places (key c.args.page)) x.bytes c.lend.ensures.chain place in
    let found : IsFoundAt z c.args.page i = c.in_ok-at.ensures.found in
    let owes : owed_of (frame_at c.lend.new.self.frames.items (place_at c.lend.new.self.places (key c.args.page))) ≡ owed_of x =
    ap (λ (k : ℕ). owed_of (frame_at c.lend.new.self.frames.items k)) place ∙ ap (λ (y : Store). owed_of (frame_at y.frames.items i)) c.lend.ensures.after
    ∙ ap owed_of (frame-set z i (lent_frame x) found.there) in
    λ none told. bytes ∙ (c.in_ok-at.ensures.passes.whole.coherent i).clean c.args.page found.holds (owes-none x c.args.page found.holds (sym owes ∙ none)) home told

pub bring-requires-clause-room : goal.bring-requires-clause-room
bring-requires-clause-room g c = more-room c.args.self.now.store c.requires.whole.shape c.requires.few

pub lend-requires-clause-free : goal.lend-requires-clause-free
lend-requires-clause-free g c =
    let s : Store = c.args.self.now.store in
    let d : Disks = disks_in g.M.PageDevice g.T.PageDevice c.args.self.now.devices in
    let e : Disks = disks_in g.M.PageDevice g.T.PageDevice c.bring.new.self.devices in
    let z : Store = c.bring.new.self.store in
    let i : ℕ = c.in_ok-at.at in
    let free : (frame_at z.frames.items i).pinned ≡ false = still-free d e s z (Ok i) i c.args.page c.in_ok-at.ensures.passes c.in_ok-at.ensures.found c.requires.not_pinned in
    let home : (frame_at z.frames.items i).lent ≡ false = still-home d e s z (Ok i) i c.args.page c.in_ok-at.ensures.passes c.in_ok-at.ensures.found c.requires.not_out in
    λ j. free j || home j

pub lend-requires-clause-clock : goal.lend-requires-clause-clock
lend-requires-clause-clock g c = ticks c.bring.new.self.store c.in_ok-at.at c.in_ok-at.ensures.passes.whole.shape c.in_ok-at.ensures.found.there

-- a frame that is handed out leaves the pages in theirs
lent-stays : {M T : Type 0} (a : Parts M T) (z : Store) (i : ℕ) → i < length a.store.frames.items
    → z ≡ record (with_frame a.store i (lent_frame (frame_at a.store.frames.items i))) { lent = a.store.lent + 1; clock = used a.store.clock i } → SameFrames a (record a { store = z })
lent-stays a z i there e = frame-kept a (record a { store = z }) i (lent_frame (frame_at a.store.frames.items i)) there refl
    (ap (λ (y : Store). y.frames.items) e) (ap (λ (y : Store). y.places) e)

pub returns-clause-used : goal.returns-clause-used
returns-clause-used g c =
    let s : Store = c.args.self.now.store in
    let i : ℕ = c.in_ok-at.at in
    λ inside. ap (λ (y : Store). y.clock) c.lend.ensures.after ∙ ap (λ (k : ClockState). used k i) (c.in_ok-at.ensures.keeps_clock inside) ∙ ap (λ (f : ℕ). used s.clock f) (c.in_ok-at.ensures.stays inside)

pub returns-clause-comes : goal.returns-clause-comes
returns-clause-comes g c =
    let s : Store = c.args.self.now.store in
    let z : Store = c.bring.new.self.store in
    let i : ℕ = c.in_ok-at.at in
    let place : place_at c.lend.new.self.places (key c.args.page) ≡ i = ap (λ (y : Store). place_at y.places (key c.args.page)) c.lend.ensures.after ∙ sym c.in_ok-at.ensures.found.place in
    λ outside. comes-in (length s.frames.items) s.clock z.clock c.lend.new.self.clock i _ (c.in_ok-at.ensures.takes outside) (ap (λ (y : Store). y.clock) c.lend.ensures.after) place

pub returns-clause-score : goal.returns-clause-score
returns-clause-score g c =
    let z : Store = c.bring.new.self.store in
    let i : ℕ = c.in_ok-at.at in
    ap (λ (y : Store). score_of y.clock (place_at y.places (key c.args.page))) c.lend.ensures.after
    ∙ ap (λ (f : ℕ). score_of (used z.clock i) f) (sym c.in_ok-at.ensures.found.place)
    ∙ used-seven z.clock i (ticks z i c.in_ok-at.ensures.passes.whole.shape c.in_ok-at.ensures.found.there)

-- and each frame owes what it owed
lend-owes : {M T : Type 0} (a : Parts M T) (z : Store) (i : ℕ) → i < length a.store.frames.items
    → z ≡ record (with_frame a.store i (lent_frame (frame_at a.store.frames.items i))) { lent = a.store.lent + 1; clock = used a.store.clock i } → OwesSame a (record a { store = z })
lend-owes a z i there e = owing-kept a (record a { store = z }) i (lent_frame (frame_at a.store.frames.items i)) there refl (ap (λ (y : Store). y.frames.items) e)

pub returns-clause-owing : goal.returns-clause-owing
returns-clause-owing g c =
    let m : Parts g.row.M.Denot g.row.T.Denot = c.bring.new.self in
    λ inside k. lend-owes m c.lend.new.self c.in_ok-at.at c.in_ok-at.ensures.found.there c.lend.ensures.after k ∙ c.in_ok-at.ensures.owing inside k

pub returns-clause-clean : goal.returns-clause-clean
returns-clause-clean g c =
    let m : Parts g.row.M.Denot g.row.T.Denot = c.bring.new.self in
    let b : Parts g.row.M.Denot g.row.T.Denot = record m { store = c.lend.new.self } in
    let i : ℕ = c.in_ok-at.at in
    let place : place_at c.lend.new.self.places (key c.args.page) ≡ i = ap (λ (y : Store). place_at y.places (key c.args.page)) c.lend.ensures.after ∙ sym c.in_ok-at.ensures.found.place in
    λ outside. ap (owed b) place ∙ lend-owes m c.lend.new.self i c.in_ok-at.ensures.found.there c.lend.ensures.after i ∙ c.in_ok-at.ensures.clean outside

pub returns-clause-keeps_frames : goal.returns-clause-keeps_frames
returns-clause-keeps_frames g c =
    let a : Parts g.row.M.Denot g.row.T.Denot = c.args.self.now in
    let m : Parts g.row.M.Denot g.row.T.Denot = c.bring.new.self in
    let b : Parts g.row.M.Denot g.row.T.Denot = record m { store = c.lend.new.self } in
    let i : ℕ = c.in_ok-at.at in
    let page = c.args.page in
    let place : frame_of b page ≡ i = ap (λ (y : Store). place_at y.places (key page)) c.lend.ensures.after ∙ sym c.in_ok-at.ensures.found.place in
    let P : ℕ → Type 0 = λ k. KeepsFrames a b page k in
    subst P (sym place) (but-then-same a m b page i c.in_ok-at.ensures.keeps_frames (lent-stays m c.lend.new.self i c.in_ok-at.ensures.found.there c.lend.ensures.after)
    (lend-owes m c.lend.new.self i c.in_ok-at.ensures.found.there c.lend.ensures.after))

pub returns-clause-same_frames : goal.returns-clause-same_frames
returns-clause-same_frames g c =
    let a : Parts g.row.M.Denot g.row.T.Denot = c.args.self.now in
    let m : Parts g.row.M.Denot g.row.T.Denot = c.bring.new.self in
    let b : Parts g.row.M.Denot g.row.T.Denot = record m { store = c.lend.new.self } in
    let i : ℕ = c.in_ok-at.at in
    λ inside. same-then a m b (c.in_ok-at.ensures.same_frames inside) (lent-stays m c.lend.new.self i c.in_ok-at.ensures.found.there c.lend.ensures.after)

pub returns-clause-keeps_counts : goal.returns-clause-keeps_counts
returns-clause-keeps_counts g c = λ inside. ap (λ (z : Store). z.counts) c.lend.ensures.after ∙ c.in_ok-at.ensures.keeps_counts inside

pub returns-clause-evicts : goal.returns-clause-evicts
returns-clause-evicts g c =
    let a : Parts g.row.M.Denot g.row.T.Denot = c.args.self.now in
    let page = c.args.page in
    let i : ℕ = c.in_ok-at.at in
    let place : place_at c.lend.new.self.places (key page) ≡ i = ap (λ (y : Store). place_at y.places (key page)) c.lend.ensures.after ∙ sym c.in_ok-at.ensures.found.place in
    λ outside. ap (λ (z : Store). z.counts.evictions) c.lend.ensures.after ∙ c.in_ok-at.ensures.evicts outside
    ∙ ap (λ (k : ℕ). evicted (page_in a k) a.store.counts.evictions) (sym place)

pub returns-clause-uncounted : goal.returns-clause-uncounted
returns-clause-uncounted g c = λ same reads writes. c.in_ok-at.ensures.uncounted (sym (ap (λ (z : Store). z.counts) c.lend.ensures.after) ∙ same) reads writes

pub returns-clause-keeps_out : goal.returns-clause-keeps_out
returns-clause-keeps_out g c =
    let m : Parts g.row.M.Denot g.row.T.Denot = c.bring.new.self in
    taken-keeps g.M.PageDevice g.T.PageDevice c.args.self.now (record m { store = c.lend.new.self }) c.args.page c.requires.whole c.requires.not_out
    (returns-clause-same_frames g c) (returns-clause-comes g c) (returns-clause-keeps_frames g c)

pub returns-in_err-at-clause-keeps_out : goal.returns-in_err-at-clause-keeps_out
returns-in_err-at-clause-keeps_out g c =
    refused-keeps g.M.PageDevice g.T.PageDevice c.args.self.now c.bring.new.self c.args.page _ c.requires.whole c.in_err-at.ensures.refused
