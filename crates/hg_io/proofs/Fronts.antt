-- what a copy of the front of the bytes that are left says of a read
use Rattle.std.proofs.Common.{◌≡◌, ℕ, ◌+◌, ◌<◌, min, List, [], ◌++◌, length, take, drop, sym, ap, ◌∙◌, arith, length-drop}
use Rattle.std.proofs.lemmas.List.{take-append-drop, drop-drop, drop_all}

pub reads_front : (bytes buffer : List ℕ) (at n : ℕ) → take n buffer ≡ take n (drop at bytes)
    → drop at bytes ≡ take n buffer ++ drop (at + n) bytes
reads_front bytes buffer at n copied =
    sym (ap (λ l. l ++ drop (at + n) bytes) copied ∙ ap (λ l. take n (drop at bytes) ++ l) (sym (drop-drop n at bytes))
    ∙ take-append-drop n (drop at bytes))

pub nothing_left : (bytes : List ℕ) (at n room : ℕ) → n ≡ min (length (drop at bytes)) room → n ≡ 0 → 0 < room
    → drop (at + n) bytes ≡ []
nothing_left bytes at n room count none some = drop_all (at + n) bytes (omega (arith, length-drop at bytes))
