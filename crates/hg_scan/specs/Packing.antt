-- Reserved words by their length, and by their letters packed into one number.
use Rattle.std.specs.Prelude.{ℕ, ◌+◌, ◌*◌, ◌==◌, List, [], ◌∷◌, Option}
use Rattle.std.specs.List.{find, fold}
use Rattle.hg_scan.specs.Words.{word_of}
use Rattle.hg_scan.specs.declared.words.Keyword.{Keyword}
use Rattle.hg_scan.specs.declared.words.Keyword.TheVariants as key

-- the number whose digits to the base 256 are the letters of a word
abbrev pub packed : List ℕ → ℕ
packed w = fold (λ n b. n * 256 + b) 0 w

-- the reserved word of a list that is packed so
abbrev pub packed_among : ℕ → List Keyword → Option Keyword
packed_among p ks = find (λ k. packed (word_of k) == p) ks

abbrev pub words_of_two : List Keyword
words_of_two = key.As ∷ key.By ∷ key.In ∷ key.Is ∷ key.On ∷ key.Or ∷ []

abbrev pub words_of_three : List Keyword
words_of_three = key.All ∷ key.And ∷ key.Asc ∷ key.Int ∷ key.Key ∷ key.Max ∷ key.Min ∷ key.Not ∷ key.Set ∷ key.Sum ∷ []

abbrev pub words_of_four : List Keyword
words_of_four = key.Desc ∷ key.From ∷ key.Into ∷ key.Join ∷ key.Left ∷ key.Null ∷ []

abbrev pub words_of_five : List Keyword
words_of_five = key.Count ∷ key.Cross ∷ key.Group ∷ key.Index ∷ key.Inner ∷ key.Order ∷ key.Outer ∷ key.Table ∷ key.Where ∷ []

abbrev pub words_of_six : List Keyword
words_of_six = key.Bigint ∷ key.Create ∷ key.Delete ∷ key.Exists ∷ key.Having ∷ key.Insert ∷ key.Select ∷ key.Unique ∷ key.Update ∷ key.Values ∷ []

abbrev pub words_of_seven : List Keyword
words_of_seven = key.Between ∷ key.Integer ∷ key.Primary ∷ key.Varchar ∷ []

abbrev pub words_of_eight : List Keyword
words_of_eight = key.Distinct ∷ []
