-- What a source tells of the bytes that are left, and a sink of the bytes that were written: a list,
-- or nothing at all. Our own rule.
use Rattle.std.specs.Prelude.{◌≡◌, ℕ, ◌<◌, List, [], ◌++◌, length, take, Option, None, Some, Result, MatchResult, IfSome, refl}
use Rattle.std.proofs.Common.{sym, ap, append_assoc}

-- these bytes more at the end, where the bytes are told
abbrev pub then : Option (List ℕ) → List ℕ → Option (List ℕ)
then None bytes = None
then (Some all) bytes = Some (all ++ bytes)

-- these bytes more at the front, where the bytes are told
abbrev pub before : List ℕ → Option (List ℕ) → Option (List ℕ)
before bytes None = None
before bytes (Some all) = Some (bytes ++ all)

-- where the bytes left are told, none is left
abbrev pub AtEnd : Option (List ℕ) → Type 0
AtEnd left = IfSome left (λ bytes. bytes ≡ [])

-- a read gives the next bytes; 0 for a buffer that is not empty comes only at the end; a failed read
-- leaves the bytes left as they were
abbrev pub Reads : {E : Type 0} → Option (List ℕ) → Option (List ℕ) → Result ℕ E → List ℕ → Type 0
Reads old new result buffer =
    MatchResult result
    (λ n. (old ≡ before (take n buffer) new) × (n ≡ 0 → 0 < length buffer → AtEnd new))
    (λ _. new ≡ old)

-- a write takes bytes from the front of the piece, at least one of a piece that is not empty; a failed
-- write leaves the bytes written as they were
abbrev pub Writes : {E : Type 0} → Option (List ℕ) → Option (List ℕ) → Result ℕ E → List ℕ → Type 0
Writes old new result piece =
    MatchResult result
    (λ n. (new ≡ then old (take n piece)) × (0 < length piece → 0 < n))
    (λ _. new ≡ old)

pub then-then : (told : Option (List ℕ)) (a b : List ℕ) → then (then told a) b ≡ then told (a ++ b)
then-then None a b = refl
then-then (Some all) a b = ap Some (append_assoc all a b)

pub before-before : (told : Option (List ℕ)) (a b : List ℕ) → before a (before b told) ≡ before (a ++ b) told
before-before None a b = refl
before-before (Some all) a b = ap Some (sym (append_assoc a b all))
