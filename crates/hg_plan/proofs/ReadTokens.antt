-- A line that is read as a statement has not too many of anything, and each text of it is a text.
use Rattle.std.proofs.Common.{◌≡◌, ℕ, ◌≤◌, refl, Bool, true, false, ◌||◌, List, [], ◌∷◌, length, None}
use Rattle.std.specs.Prelude.{nat_lt, nat_le}
use Rattle.std.specs.List.{AllByRecursion, list_all, list_any}
use Rattle.std.specs.Cmp.{first_so, second_so}
use borrow.Author.Tests.{le-leb, ltb-false}
use Rattle.hg_model.specs.Query.{Query}
use Rattle.hg_model.specs.Reading.{is_long_name, is_long_text, columns_in, of_insert, of_query, nodes_in, too_many_of, first_count}
use Rattle.hg_model.specs.Statements.{InsertTree, CommandTree}
use Rattle.hg_model.specs.Tokens.{Token, Word, Digits, Letters, Sign, Spells}
use Rattle.hg_model.specs.Tokens as tokens
use Rattle.hg_model.specs.Value.{is_printable}
use Rattle.hg_model.specs.declared.trees.Count.{Count}
use Rattle.hg_model.specs.declared.trees.Count.TheVariants as count
use Rattle.hg_plan.proofs.ReadTrees.{AllTexts, is_text_token, both_so}

-- where no kind is the first, there are not too many of any
none_counted : (bs : List (Bool × Count)) → first_count bs ≡ None → AllByRecursion (λ (b : Bool × Count). b.0 ≡ false) bs
none_counted [] h = tt
none_counted ((true, k) ∷ bs) h = absurd cc
none_counted ((false, k) ∷ bs) h = (refl, none_counted bs h)

abbrev counts : List Token → CommandTree → List (Bool × Count)
counts ts c =
    (list_any is_long_name ts, count.NameLetters)
    ∷ (list_any is_long_text ts, count.TextLetters)
    ∷ (nat_lt 16 (columns_in c), count.Columns)
    ∷ (nat_lt 64 (of_insert (λ (i : InsertTree). length i.ends) c), count.Rows)
    ∷ (nat_lt 1024 (of_insert (λ (i : InsertTree). length i.values) c), count.Values)
    ∷ (nat_lt 4 (of_query (λ (q : Query). length q.tables) c), count.TablesInFrom)
    ∷ (nat_lt 16 (of_query (λ (q : Query). length q.outputs) c), count.Outputs)
    ∷ (nat_lt 16 (of_query (λ (q : Query). length q.group) c), count.GroupColumns)
    ∷ (nat_lt 8 (of_query (λ (q : Query). length q.order) c), count.OrderKeys)
    ∷ (nat_lt 96 (nodes_in c), count.Nodes)
    ∷ []

pub record Few (ts : List Token) (c : CommandTree) : Type 0 where
  pub texts : list_any is_long_text ts ≡ false
  pub columns : columns_in c ≤ 16
  pub tables : of_query (λ (q : Query). length q.tables) c ≤ 4
  pub outputs : of_query (λ (q : Query). length q.outputs) c ≤ 16
  pub groups : of_query (λ (q : Query). length q.group) c ≤ 16
  pub keys : of_query (λ (q : Query). length q.order) c ≤ 8
  pub nodes : nodes_in c ≤ 96

pub few : (ts : List Token) (c : CommandTree) → too_many_of ts c ≡ None → Few ts c
few ts c h =
    let all = none_counted (counts ts c) h in
    let of_tables = all.1.1.1.1.1 in
    let of_keys = of_tables.1.1.1 in
    record {
      texts = all.1.0;
      columns = ltb-false 16 (columns_in c) all.1.1.0;
      tables = ltb-false 4 (of_query (λ (q : Query). length q.tables) c) of_tables.0;
      outputs = ltb-false 16 (of_query (λ (q : Query). length q.outputs) c) of_tables.1.0;
      groups = ltb-false 16 (of_query (λ (q : Query). length q.group) c) of_tables.1.1.0;
      keys = ltb-false 8 (of_query (λ (q : Query). length q.order) c) of_keys.0;
      nodes = ltb-false 96 (nodes_in c) of_keys.1.0;
    }

-- the characters of a text that is spelled are printable
abbrev is_printed : Token → Bool
is_printed (Letters t) = list_all is_printable t
is_printed (Word w) = true
is_printed (Digits ds) = true
is_printed (Sign s) = true

printed : {ts : List Token} {bs : List ℕ} → Spells ts bs → list_all is_printed ts ≡ true
printed tokens.Spells.at_end = refl
printed (tokens.Spells.comment bs) = refl
printed (tokens.Spells.blank ts b bs is s) = printed s
printed (tokens.Spells.word ts w bs is ends s) = printed s
printed (tokens.Spells.number ts ds bs is ends s) = printed s
printed (tokens.Spells.text ts t bs is ends s) = both_so (list_all is_printable t) (list_all is_printed ts) is (printed s)
printed (tokens.Spells.sign ts x bs is ends s) = printed s

not_so : (s t : Bool) → (s || t) ≡ false → (s ≡ false) × (t ≡ false)
not_so true t h = absurd cc
not_so false t h = (refl, h)

token_fits : (t : Token) → is_printed t ≡ true → is_long_text t ≡ false → is_text_token t ≡ true
token_fits (Letters t) p h = both_so (list_all is_printable t) (nat_le (length t) 255) p (le-leb (length t) 255 (ltb-false 255 (length t) h))
token_fits (Word w) p h = refl
token_fits (Digits ds) p h = refl
token_fits (Sign s) p h = refl

tokens_fit : (ts : List Token) → list_all is_printed ts ≡ true → list_any is_long_text ts ≡ false → list_all is_text_token ts ≡ true
tokens_fit [] p h = refl
tokens_fit (t ∷ ts) p h =
    let short = not_so (is_long_text t) (list_any is_long_text ts) h in
    both_so (is_text_token t) (list_all is_text_token ts) (token_fits t (first_so (is_printed t) (list_all is_printed ts) p) short.0)
    (tokens_fit ts (second_so (is_printed t) (list_all is_printed ts) p) short.1)

pub spelled_fit : {ts : List Token} {bs : List ℕ} → Spells ts bs → list_any is_long_text ts ≡ false → AllTexts ts
spelled_fit {ts = ts} s h = record { so = tokens_fit ts (printed s) h }
