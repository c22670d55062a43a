-- What a piece of a line shows.
use Rattle.std.specs.Prelude.{◌≡◌, ℕ, ◌<◌, ◌≤◌, ◌^◌, List, Option, Some, pos}
use Rattle.hg_model.specs.Tokens.{Token}
use Rattle.hg_scan.specs.Cutting.{Front, AtEnd, Wrong, Next}
use Rattle.hg_scan.specs.Pieces.{token_by}
use Rattle.hg_scan.specs.declared.piece.Kind.TheVariants as kind
use Rattle.hg_scan.specs.declared.piece.Piece.{Piece}
use Rattle.hg_scan.specs.declared.number.Number.{Number}
use Rattle.hg_scan.specs.declared.number.Number.TheVariants.{Magnitude, TooLong}

-- the token that a piece stands for; none at the end of a line and where no token can begin
abbrev pub token_of : Piece → Option Token
token_of p = token_by p.kind p.bytes.now

-- `p` is cut off the front of `old`, and `new` is left; at the end of a line, and where no token can
-- begin, everything is left as it is
abbrev pub Cuts : Front → Piece → List ℕ → List ℕ → Type 0
Cuts AtEnd p old new = (p.kind ≡ kind.End) × (new ≡ old)
Cuts Wrong p old new = (p.kind ≡ kind.Wrong) × (new ≡ old)
Cuts (Next t rest) p old new = (token_of p ≡ Some t) × (new ≡ rest)

-- a number is given where it is below 10^38
abbrev pub IsNumber : Number → ℕ → Type 0
IsNumber (Magnitude x) n = (x ≡ pos n) × (n < 10 ^ 38)
IsNumber TooLong n = 10 ^ 38 ≤ n
