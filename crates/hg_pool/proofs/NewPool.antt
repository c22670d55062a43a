-- A pool that is opened.
use Rattle.std.specs.Prelude.{◌≡◌, ℕ, ◌≤◌, ◌/◌, ◌%◌, ◌==◌, ◌&&◌, ◌||◌, Bool, true, false, length, Option, None, Some, if◌then◌else◌, slice_index_or}
use Rattle.std.proofs.Common.{sym, ◌∙◌, ap, subst, refl, arith}
use Rattle.std.proofs.lemmas.Bool.{false≢true}
use Rattle.std.proofs.lemmas.List.{length-replicate}
use Rattle.hg_base.specs.Space.{Space, NoPins, key, key_in}
use Rattle.hg_base.specs.SteadyLaws.{spaces_agree}
use Rattle.hg_base.specs.declared.File.{File}
use Rattle.hg_base.specs.declared.File.TheVariants.{Main, Temp}
use Rattle.hg_space.specs.Shown.{pages_of}
use Rattle.hg_space.specs.PageMap as map
use Rattle.hg_pool.specs.Files.{by_key}
use Rattle.hg_pool.specs.Disks.{Disks}
use Rattle.hg_pool.specs.Picture.{Picture, picture_of, shown, frame_at, place_at, taken_at, limit_of, room_in, no_heaps, is_in, tells, is_key_of, held_in, counts_of}
use Rattle.hg_pool.specs.Sound.{IsSound, pinned_in, lent_in}
use Rattle.hg_pool.specs.Opening.{IsPossible, IsNewStore, new_space, limit_in}
use Rattle.hg_clock.specs.Clock.{ClockState}
use Rattle.hg_clock.specs.Clock as clock
use Rattle.hg_pool.specs.Clocking.{IsRunning}
use Rattle.hg_pool.specs.Shown.{NoneIn}
use Rattle.hg_pool.specs.declared.Config.{Config}
use Rattle.hg_pool.specs.declared.store.Answers.{Answers}
use Rattle.hg_pool.specs.declared.store.Store.{Store}
use Rattle.hg_pool.specs.declared.parts.Parts.{Parts}
use Rattle.hg_pool.proofs.Steps.{none-apart}
use Rattle.hg_pool.proofs.Counting.{pinned-none, lent-none}
use Rattle.hg_pool.proofs.Moves.{more-none}
use Rattle.std.proofs.lemmas.List.Elements.{All-replicate}

same-choice : {X : Type 0} (t : Bool) (x y z : X) → x ≡ z → y ≡ z → (if t then x else y) ≡ z
same-choice true x y z h k = h
same-choice false x y z h k = k

limits : (c : Config) (s : Store) (file : File) → IsNewStore c s → limit_of s.maps file ≡ limit_in c file
limits c s Main h = ap (λ (m : map.PageMap). m.limit) h.main_map
limits c s Temp h = ap (λ (m : map.PageMap). m.limit) h.temp_map

by_key-same : {X : Type 0} (a b : ℕ → X) (x : X) (q : ℕ) → ((n : ℕ) → a n ≡ x) → ((n : ℕ) → b n ≡ x) → by_key a b q ≡ x
by_key-same a b x q h k = same-choice (q % 2 == 0) (a (q / 2)) (b (q / 2)) x (h (q / 2)) (k (q / 2))

-- no page of a new store is taken, and there is room for a place of each
new-free : (c : Config) (s : Store) → IsNewStore c s → (q : ℕ) → taken_at s.maps q ≡ false
new-free c s h q = by_key-same (pages_of s.maps.main).used (pages_of s.maps.temp).used false q
    (λ n. ap (λ (m : map.PageMap). m.used n) h.main_map) (λ n. ap (λ (m : map.PageMap). m.used n) h.temp_map)

new-room : (c : Config) (s : Store) → IsNewStore c s → (file : File) → limit_of s.maps file ≤ room_in s.places file
new-room c s h Main = let l = limits c s Main h in let k = h.main_room in omega arith
new-room c s h Temp = let l = limits c s Temp h in let k = h.temp_room in omega arith

new-running : (c : Config) (s : Store) → c.pool ≤ c.max → c.max ≤ 65536 → IsNewStore c s → IsRunning s.frames s.clock
new-running c s reserved most h = record {
  sound = subst (λ (k : ClockState). clock.IsSound k) (sym h.clock) (record {
    same_length = length-replicate {A = Bool} c.max false ∙ sym (length-replicate {A = ℕ} c.max 0);
    small = All-replicate (λ k. k ≤ 7) c.max 0 (omega arith);
  });
  count = ap (λ (k : ClockState). length k.scores) h.clock ∙ length-replicate {A = ℕ} c.max 0 ∙ sym h.max;
  inside = (let a = h.frames.count in let b = h.max in omega (arith, a, b, reserved));
  most = (let b = h.max in omega (arith, b, most));
  out = λ f. ap (λ (k : ClockState). slice_index_or k.out f false) h.clock ∙ more-none c.max f false ∙ sym (λ i. h.frames.pinned f i || h.frames.lent f i);
}

pub new-sound : (c : Config) (d : Disks) (s : Store) → IsPossible c d.main.pages d.temp.pages → IsNewStore c s → IsSound d s
new-sound c d s possible h =
    let count : length s.frames.items ≡ c.pool = h.frames.count in
    let none : (f : ℕ) → (frame_at s.frames.items f).page ≡ None = h.frames.none in
    let main : (pages_of s.maps.main).limit ≡ c.main_pages = ap (λ (m : map.PageMap). m.limit) h.main_map in
    let temp : (pages_of s.maps.temp).limit ≡ c.temp_pages = ap (λ (m : map.PageMap). m.limit) h.temp_map in
    let pinned : pinned_in s.frames.items ≡ 0 = pinned-none s.frames.items h.frames.pinned in
    let lent : lent_in s.frames.items ≡ 0 = lent-none s.frames.items h.frames.lent in record {
      coherent = λ f. record {
        found = λ p e. none-apart (frame_at s.frames.items f).page p (place_at s.places (key p) ≡ f) (none f) e;
        taken = λ p e. none-apart (frame_at s.frames.items f).page p (taken_at s.maps (key p) ≡ true) (none f) e;
        whole = λ p e _. none-apart (frame_at s.frames.items f).page p (length (frame_at s.frames.items f).bytes ≡ 4096) (none f) e;
        apart = λ _. h.frames.lent f;
        paged = λ l. absurd (false≢true (sym (h.frames.lent f) ∙ l));
        clean = λ p e _ _ _. none-apart (frame_at s.frames.items f).page p ((frame_at s.frames.items f).bytes ≡ (picture_of d s).page (key p)) (none f) e;
      };
      shape = record {
        counted = pinned ∙ sym h.pins;
        few = (let l = h.pins in omega arith);
        lent_counted = lent ∙ sym h.lent;
        lent_fits = (let l = h.lent in let k = h.frames.count in let m = possible.at_least in omega (arith, l, k, m));
        at_least = (let l = possible.at_least in omega arith);
        at_most = (let l = possible.reserved in let k = possible.at_most in omega arith);
        clock = new-running c s possible.reserved possible.at_most h;
        maps = record { main = h.main_sound; temp = h.temp_sound };
        placed = λ file n t. absurd (false≢true (sym (new-free c s h (key_in file n)) ∙ t));
        room = new-room c s h;
      };
      main_fits = (let l = possible.main_fits in omega arith);
      temp_fits = (let l = possible.temp_fits in omega arith);
    }

pub new-shown : (c : Config) (d : Disks) (s : Store) → IsNewStore c s → shown (picture_of d s) ≡ new_space c d
new-shown c d s h =
    let v : Picture = picture_of d s in
    let free : (q : ℕ) → v.taken q ≡ false = new-free c s h in
    let next : (q : ℕ) → ◌≡◌ {A = Option ℕ} (v.next q) None = λ q. by_key-same (pages_of s.maps.main).next (pages_of s.maps.temp).next None q
    (λ n. ap (λ (m : map.PageMap). m.next n) h.main_map) (λ n. ap (λ (m : map.PageMap). m.next n) h.temp_map) in
    let out : (q : ℕ) → is_in v.frame v.place q ≡ false = λ q. ap (is_key_of q) (h.frames.none (v.place q)) in
    spaces_agree (shown v) (new_space c d) refl
    (λ i. λ file. limits c s file h i)
    refl
    free
    (λ q. ap (λ t. if t && tells v q then Some (held_in v.frame v.place v.page q) else None) (free q))
    (λ q. ap (λ t. t && (v.frame (v.place q)).pinned) (out q))
    h.pins next (λ q. ap (λ t. t && (v.frame (v.place q)).lent) (out q))
    (λ i. no_heaps (h.frames.count i) (h.max i))
    (ap (λ (a : Answers). counts_of d (record s { answers = a })) h.answers)

pub new-no_pins : (c : Config) (d : Disks) (v : Space) → v ≡ new_space c d → NoPins v
new-no_pins c d v e = let P : Space → Type 0 = λ w. NoPins w in subst P (sym e) (record { none_out = refl; not_pinned = λ q. refl })

-- no page is in a frame of a new pool
pub new-none_in : {M T : Type 0} (c : Config) (s : Parts M T) → IsNewStore c s.store → NoneIn s
new-none_in c s h = record {
  frames = λ f. h.frames.none f;
  pages = λ q. ap (is_key_of (key q)) (h.frames.none (place_at s.store.places (key q)));
}
