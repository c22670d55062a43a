-- What calls leave of a space of which no frame is out.
use Rattle.std.specs.Prelude.{◌≡◌, ℕ, ◌+◌, ◌-◌, Bool, true, false, List, Some}
use Rattle.std.proofs.Common.{◌∙◌, ap, inl, inr, arith}
use Rattle.std.proofs.lemmas.Bool.Decides.{eqb_tells}
use Rattle.hg_base.specs.Space.{Space, at, key, zero_page, with_bytes, without_pin, without_page, NoPins, IsSame, IsPinned, IsMade}
use Rattle.hg_base.specs.declared.File.{File}
use Rattle.hg_base.specs.declared.PageId.{PageId}
use Rattle.hg_raw.specs.Frames.{ChainSeen, Has, numbers, is_in}
use Rattle.hg_pool.specs.Keeping.{IsJust}
use Rattle.hg_pool.specs.Keys.{at-here, at-other}
use Rattle.hg_pool.specs.Lending.{put_back, IsHandedOut}
use Rattle.hg_pool.specs.Disks.{Disks}
use Rattle.hg_pool.specs.Opening.{new_space}
use Rattle.hg_pool.specs.Resizing.{NoneOut, with_current}
use Rattle.hg_pool.specs.declared.Config.{Config}
use Rattle.hg_pool.proofs.Moves.{one-is}

off-again : (f : ℕ → Bool) (p q : ℕ) → f q ≡ false → at (at f p true) p false q ≡ false
off-again f p q h = elim (eqb_tells q p) [
  | inl e ↦ ap (at (at f p true) p false) e.1 ∙ at-here (at f p true) p false
  | inr n ↦ at-other (at f p true) p false q n.1 ∙ at-other f p true q n.1 ∙ h
]

one-less : (n m k : ℕ) → n ≡ 0 → m ≡ n + 1 → k ≡ m - 1 → k ≡ 0
one-less n m k a b c = omega (arith, a, b, c)

pub none-same : (a b : Space) → NoneOut a → IsSame a b → NoneOut b
none-same a b h s = record {
  no_pins = record {
    none_out = ap (λ (v : Space). v.pins) s.after ∙ h.no_pins.none_out;
    not_pinned = λ q. ap (λ (v : Space). v.pinned q) s.after ∙ h.no_pins.not_pinned q;
  };
  none_lent = λ q. ap (λ (v : Space). v.of_heap q) s.after ∙ h.none_lent q;
}

pub made-pinned : (a b : Space) (file : File) (page : PageId) → IsMade file a b page → b.pinned (key page) ≡ true
made-pinned a b file page m = ap (λ (v : Space). v.pinned (key page)) m.after ∙ at-here a.pinned (key page) true

pub pin-there : (a b : Space) (p : ℕ) → IsPinned a b p → b.pinned p ≡ true
pin-there a b p h = ap (λ (v : Space). v.pinned p) h.after ∙ at-here a.pinned p true

-- a page was made and written, and its pin was given back
pub written-pinned : (b v : Space) (p : ℕ) (x : List ℕ) → v ≡ with_bytes b p x → b.pinned p ≡ true → v.pinned p ≡ true
written-pinned b v p x e h = ap (λ (k : Space). k.pinned p) e ∙ h

pub made-bytes : (a b : Space) (file : File) (page : PageId) → IsMade file a b page → b.bytes (key page) ≡ Some zero_page
made-bytes a b file page m = ap (λ (v : Space). v.bytes (key page)) m.after ∙ at-here a.bytes (key page) (Some zero_page)

pub none-made-written : (a b v c : Space) (file : File) (page : PageId) (x : List ℕ) → NoneOut a → IsMade file a b page → v ≡ with_bytes b (key page) x
    → c ≡ without_pin v (key page) → NoneOut c
none-made-written a b v c file page x h m w e = record {
  no_pins = record {
    none_out = one-less a.pins b.pins c.pins h.no_pins.none_out (ap (λ (k : Space). k.pins) m.after) (ap (λ (k : Space). k.pins) e ∙ ap (λ (k : Space). k.pins - 1) w);
    not_pinned = λ q. ap (λ (k : Space). k.pinned q) e ∙ ap (λ (k : Space). at k.pinned (key page) false q) (w ∙ ap (λ (k : Space). with_bytes k (key page) x) m.after)
        ∙ off-again a.pinned (key page) q (h.no_pins.not_pinned q);
  };
  none_lent = λ q. ap (λ (k : Space). k.of_heap q) e ∙ ap (λ (k : Space). k.of_heap q) w ∙ ap (λ (k : Space). k.of_heap q) m.after ∙ h.none_lent q;
}

-- a page was pinned, and its pin was given back
pub none-pinned : (a b c : Space) (p : ℕ) → NoneOut a → IsPinned a b p → c ≡ without_pin b p → NoneOut c
none-pinned a b c p h m e = record {
  no_pins = record {
    none_out = one-less a.pins b.pins c.pins h.no_pins.none_out (ap (λ (v : Space). v.pins) m.after) (ap (λ (v : Space). v.pins) e);
    not_pinned = λ q. ap (λ (v : Space). v.pinned q) e ∙ ap (λ (v : Space). at v.pinned p false q) m.after ∙ off-again a.pinned p q (h.no_pins.not_pinned q);
  };
  none_lent = λ q. ap (λ (v : Space). v.of_heap q) e ∙ ap (λ (v : Space). v.of_heap q) m.after ∙ h.none_lent q;
}

pub none-released : (a b : Space) (p : ℕ) → NoneOut a → b ≡ without_page a p → NoneOut b
none-released a b p h e = record {
  no_pins = record {
    none_out = ap (λ (v : Space). v.pins) e ∙ h.no_pins.none_out;
    not_pinned = λ q. ap (λ (v : Space). v.pinned q) e ∙ h.no_pins.not_pinned q;
  };
  none_lent = λ q. ap (λ (v : Space). v.of_heap q) e ∙ h.none_lent q;
}

-- a page was handed out and put back
pub none-put : (a b c : Space) (p : ℕ) (held w : List ℕ) → NoneOut a → IsHandedOut a b p held → c ≡ put_back b p w → NoneOut c
none-put a b c p held w h m e = record {
  no_pins = record {
    none_out = ap (λ (v : Space). v.pins) e ∙ ap (λ (v : Space). v.pins) m.after ∙ h.no_pins.none_out;
    not_pinned = λ q. ap (λ (v : Space). v.pinned q) e ∙ ap (λ (v : Space). v.pinned q) m.after ∙ h.no_pins.not_pinned q;
  };
  none_lent = λ q. ap (λ (v : Space). v.of_heap q) e ∙ ap (λ (v : Space). at v.of_heap p false q) m.after ∙ off-again a.of_heap p q (h.none_lent q);
}

pub out-there : (a b : Space) (p : ℕ) (held : List ℕ) → IsHandedOut a b p held → b.of_heap p ≡ true
out-there a b p held m = ap (λ (v : Space). v.of_heap p) m.after ∙ at-here a.of_heap p true

pub just-has : (c : ChainSeen) (f : ℕ) → IsJust c f → Has c f
just-has c f e = ap (λ (l : List (ℕ × List ℕ)). is_in f (numbers l)) e ∙ one-is f

-- a space that is new
pub none-new : (c : Config) (d : Disks) (v : Space) → v ≡ new_space c d → NoPins v → NoneOut v
none-new c d v e h = record { no_pins = h; none_lent = λ q. ap (λ (w : Space). w.of_heap q) e }

-- another number of frames
pub none-resized : (a b : Space) (n : ℕ) → NoneOut a → b ≡ with_current a n → NoneOut b
none-resized a b n h e = record {
  no_pins = record {
    none_out = ap (λ (v : Space). v.pins) e ∙ h.no_pins.none_out;
    not_pinned = λ q. ap (λ (v : Space). v.pinned q) e ∙ h.no_pins.not_pinned q;
  };
  none_lent = λ q. ap (λ (v : Space). v.of_heap q) e ∙ h.none_lent q;
}
