-- The aliases of FROM by their places.
use Rattle.std.proofs.Common.{◌≡◌, ◌<◌, ℕ, List, map, sym, length, get_or, arith}
use Rattle.std.proofs.lemmas.List.{length-map, get_or-map}
use Rattle.hg_model.specs.declared.trees.FromTable.{FromTable}

abbrev pub alias_of : FromTable → List ℕ
alias_of f = f.alias

pub alias_within : (froms : List FromTable) (i : ℕ) → i < length froms → i < length (map alias_of froms)
alias_within froms i h = omega (arith, length-map froms alias_of)

pub alias_here : (froms : List FromTable) (i : ℕ) (d : FromTable) → i < length froms → (get_or froms i d).alias ≡ get_or (map alias_of froms) i (get_or froms i d).alias
alias_here froms i d h = sym (get_or-map alias_of froms i d (get_or froms i d).alias h)
