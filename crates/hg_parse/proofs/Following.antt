-- What may stand behind the parts of a statement.
use Rattle.std.proofs.Common.{◌≡◌, ℕ, zero, suc, false, List, [], ◌∷◌, refl}
use Rattle.std.specs.Prelude.{codes}
use Rattle.hg_model.specs.Grammar.{comma, semicolon}
use Rattle.hg_model.specs.Tokens.{Token, is_reserved}
use Rattle.hg_parse.specs.Descent.{key}
use Rattle.hg_parse.specs.Follow.{AfterOr}
use Rattle.hg_parse.specs.Rules.{begins_name}
use Rattle.hg_parse.specs.Steps.{eats}

-- the ends of a SELECT: the later parts of one of which the first k may still stand there, `;` or nothing
pub data Follows : ℕ → List Token → Type 0 where
  at_end : {k : ℕ} → Follows k []
  at_semicolon : {k : ℕ} (ts : List Token) → Follows k (semicolon ∷ ts)
  at_order : {k : ℕ} (ts : List Token) → Follows (suc k) (key (codes "order") ∷ ts)
  at_having : {k : ℕ} (ts : List Token) → Follows (suc (suc k)) (key (codes "having") ∷ ts)
  at_group : {k : ℕ} (ts : List Token) → Follows (suc (suc (suc k))) (key (codes "group") ∷ ts)
  at_where : {k : ℕ} (ts : List Token) → Follows (suc (suc (suc (suc k)))) (key (codes "where") ∷ ts)

pub wider : {k : ℕ} {ts : List Token} → Follows k ts → Follows (suc k) ts
wider at_end = at_end
wider (at_semicolon ts) = at_semicolon ts
wider (at_order ts) = at_order ts
wider (at_having ts) = at_having ts
wider (at_group ts) = at_group ts
wider (at_where ts) = at_where ts

pub or_as : (ts : List Token) → AfterOr (key (codes "as") ∷ ts)
or_as ts = record { conjunction = record { pred = record { sum = record { term = record { no_dot = refl; no_star = refl }; no_plus = refl; no_minus = refl }; no_cmp = refl; no_is = refl; no_not = refl; no_between = refl; no_in = refl }; no_and = refl }; no_or = refl }

pub or_from : (ts : List Token) → AfterOr (key (codes "from") ∷ ts)
or_from ts = record { conjunction = record { pred = record { sum = record { term = record { no_dot = refl; no_star = refl }; no_plus = refl; no_minus = refl }; no_cmp = refl; no_is = refl; no_not = refl; no_between = refl; no_in = refl }; no_and = refl }; no_or = refl }

pub or_on : (ts : List Token) → AfterOr (key (codes "on") ∷ ts)
or_on ts = record { conjunction = record { pred = record { sum = record { term = record { no_dot = refl; no_star = refl }; no_plus = refl; no_minus = refl }; no_cmp = refl; no_is = refl; no_not = refl; no_between = refl; no_in = refl }; no_and = refl }; no_or = refl }

pub or_cross : (ts : List Token) → AfterOr (key (codes "cross") ∷ ts)
or_cross ts = record { conjunction = record { pred = record { sum = record { term = record { no_dot = refl; no_star = refl }; no_plus = refl; no_minus = refl }; no_cmp = refl; no_is = refl; no_not = refl; no_between = refl; no_in = refl }; no_and = refl }; no_or = refl }

pub or_join : (ts : List Token) → AfterOr (key (codes "join") ∷ ts)
or_join ts = record { conjunction = record { pred = record { sum = record { term = record { no_dot = refl; no_star = refl }; no_plus = refl; no_minus = refl }; no_cmp = refl; no_is = refl; no_not = refl; no_between = refl; no_in = refl }; no_and = refl }; no_or = refl }

pub or_inner : (ts : List Token) → AfterOr (key (codes "inner") ∷ ts)
or_inner ts = record { conjunction = record { pred = record { sum = record { term = record { no_dot = refl; no_star = refl }; no_plus = refl; no_minus = refl }; no_cmp = refl; no_is = refl; no_not = refl; no_between = refl; no_in = refl }; no_and = refl }; no_or = refl }

pub or_where : (ts : List Token) → AfterOr (key (codes "where") ∷ ts)
or_where ts = record { conjunction = record { pred = record { sum = record { term = record { no_dot = refl; no_star = refl }; no_plus = refl; no_minus = refl }; no_cmp = refl; no_is = refl; no_not = refl; no_between = refl; no_in = refl }; no_and = refl }; no_or = refl }

pub or_group : (ts : List Token) → AfterOr (key (codes "group") ∷ ts)
or_group ts = record { conjunction = record { pred = record { sum = record { term = record { no_dot = refl; no_star = refl }; no_plus = refl; no_minus = refl }; no_cmp = refl; no_is = refl; no_not = refl; no_between = refl; no_in = refl }; no_and = refl }; no_or = refl }

pub or_having : (ts : List Token) → AfterOr (key (codes "having") ∷ ts)
or_having ts = record { conjunction = record { pred = record { sum = record { term = record { no_dot = refl; no_star = refl }; no_plus = refl; no_minus = refl }; no_cmp = refl; no_is = refl; no_not = refl; no_between = refl; no_in = refl }; no_and = refl }; no_or = refl }

pub or_order : (ts : List Token) → AfterOr (key (codes "order") ∷ ts)
or_order ts = record { conjunction = record { pred = record { sum = record { term = record { no_dot = refl; no_star = refl }; no_plus = refl; no_minus = refl }; no_cmp = refl; no_is = refl; no_not = refl; no_between = refl; no_in = refl }; no_and = refl }; no_or = refl }

or_none : AfterOr []
or_none = record { conjunction = record { pred = record { sum = record { term = record { no_dot = refl; no_star = refl }; no_plus = refl; no_minus = refl }; no_cmp = refl; no_is = refl; no_not = refl; no_between = refl; no_in = refl }; no_and = refl }; no_or = refl }

or_semicolon : (ts : List Token) → AfterOr (semicolon ∷ ts)
or_semicolon ts = record { conjunction = record { pred = record { sum = record { term = record { no_dot = refl; no_star = refl }; no_plus = refl; no_minus = refl }; no_cmp = refl; no_is = refl; no_not = refl; no_between = refl; no_in = refl }; no_and = refl }; no_or = refl }

pub follows_or : {k : ℕ} {ts : List Token} → Follows k ts → AfterOr ts
follows_or at_end = or_none
follows_or (at_semicolon ts) = or_semicolon ts
follows_or (at_order ts) = or_order ts
follows_or (at_having ts) = or_having ts
follows_or (at_group ts) = or_group ts
follows_or (at_where ts) = or_where ts

pub no_order : {ts : List Token} → Follows zero ts → eats (key (codes "order")) ts ≡ false
no_order at_end = refl
no_order (at_semicolon ts) = refl

pub no_having : {ts : List Token} → Follows (suc zero) ts → eats (key (codes "having")) ts ≡ false
no_having at_end = refl
no_having (at_semicolon ts) = refl
no_having (at_order ts) = refl

pub no_group : {ts : List Token} → Follows (suc (suc zero)) ts → eats (key (codes "group")) ts ≡ false
no_group at_end = refl
no_group (at_semicolon ts) = refl
no_group (at_order ts) = refl
no_group (at_having ts) = refl

pub no_where : {ts : List Token} → Follows (suc (suc (suc zero))) ts → eats (key (codes "where")) ts ≡ false
no_where at_end = refl
no_where (at_semicolon ts) = refl
no_where (at_order ts) = refl
no_where (at_having ts) = refl
no_where (at_group ts) = refl

-- no alias goes on
pub record AfterRef (ts : List Token) : Type 0 where
  pub no_as : eats (key (codes "as")) ts ≡ false
  pub no_name : begins_name ts ≡ false

pub ref_on : (ts : List Token) → AfterRef (key (codes "on") ∷ ts)
unfolding is_reserved
ref_on ts = record { no_as = refl; no_name = refl }

pub ref_cross : (ts : List Token) → AfterRef (key (codes "cross") ∷ ts)
unfolding is_reserved
ref_cross ts = record { no_as = refl; no_name = refl }

pub ref_join : (ts : List Token) → AfterRef (key (codes "join") ∷ ts)
unfolding is_reserved
ref_join ts = record { no_as = refl; no_name = refl }

pub ref_inner : (ts : List Token) → AfterRef (key (codes "inner") ∷ ts)
unfolding is_reserved
ref_inner ts = record { no_as = refl; no_name = refl }

pub ref_comma : (ts : List Token) → AfterRef (comma ∷ ts)
ref_comma ts = record { no_as = refl; no_name = refl }

-- no table goes on
pub record AfterTables (ts : List Token) : Type 0 where
  pub ref : AfterRef ts
  pub no_comma : eats comma ts ≡ false
  pub no_cross : eats (key (codes "cross")) ts ≡ false
  pub no_join : eats (key (codes "join")) ts ≡ false
  pub no_inner : eats (key (codes "inner")) ts ≡ false

pub follows_tables : {k : ℕ} {ts : List Token} → Follows k ts → AfterTables ts
unfolding is_reserved
follows_tables at_end = record { ref = record { no_as = refl; no_name = refl }; no_comma = refl; no_cross = refl; no_join = refl; no_inner = refl }
follows_tables (at_semicolon ts) = record { ref = record { no_as = refl; no_name = refl }; no_comma = refl; no_cross = refl; no_join = refl; no_inner = refl }
follows_tables (at_order ts) = record { ref = record { no_as = refl; no_name = refl }; no_comma = refl; no_cross = refl; no_join = refl; no_inner = refl }
follows_tables (at_having ts) = record { ref = record { no_as = refl; no_name = refl }; no_comma = refl; no_cross = refl; no_join = refl; no_inner = refl }
follows_tables (at_group ts) = record { ref = record { no_as = refl; no_name = refl }; no_comma = refl; no_cross = refl; no_join = refl; no_inner = refl }
follows_tables (at_where ts) = record { ref = record { no_as = refl; no_name = refl }; no_comma = refl; no_cross = refl; no_join = refl; no_inner = refl }
