-- What may stand behind an expression: nothing with which a tighter rule goes on.
use Rattle.std.specs.Prelude.{◌≡◌, false, List, None, codes}
use Rattle.hg_model.specs.Grammar.{dot, star, plus, minus}
use Rattle.hg_model.specs.Tokens.{Token}
use Rattle.hg_parse.specs.Descent.{key, compares}
use Rattle.hg_parse.specs.Steps.{eats}

pub record AfterTerm (ts : List Token) : Type 0 where
  pub no_dot : eats dot ts ≡ false
  pub no_star : eats star ts ≡ false

pub record AfterSum (ts : List Token) : Type 0 where
  pub term : AfterTerm ts
  pub no_plus : eats plus ts ≡ false
  pub no_minus : eats minus ts ≡ false

pub record AfterPred (ts : List Token) : Type 0 where
  pub sum : AfterSum ts
  pub no_cmp : compares ts ≡ None
  pub no_is : eats (key (codes "is")) ts ≡ false
  pub no_not : eats (key (codes "not")) ts ≡ false
  pub no_between : eats (key (codes "between")) ts ≡ false
  pub no_in : eats (key (codes "in")) ts ≡ false

pub record AfterAnd (ts : List Token) : Type 0 where
  pub pred : AfterPred ts
  pub no_and : eats (key (codes "and")) ts ≡ false

pub record AfterOr (ts : List Token) : Type 0 where
  pub conjunction : AfterAnd ts
  pub no_or : eats (key (codes "or")) ts ≡ false
