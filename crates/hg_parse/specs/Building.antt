-- What a descent builds: it knows a state only by these calls. The plain state keeps everything as lists.
use Rattle.std.specs.Prelude.{ℕ, List, [], ◌∷◌, ◌++◌, length}
use Rattle.hg_model.specs.Grammar.{Read, nothing_read, with_node}
use Rattle.hg_model.specs.declared.trees.FromTable.{FromTable}
use Rattle.hg_model.specs.declared.trees.Literal.{Literal}
use Rattle.hg_model.specs.declared.trees.Literal.TheVariants as literal
use Rattle.hg_model.specs.declared.trees.NewColumn.{NewColumn}
use Rattle.hg_model.specs.declared.trees.Node.{Node}
use Rattle.hg_model.specs.declared.trees.Node.TheVariants as node
use Rattle.hg_model.specs.declared.trees.OrderKey.{OrderKey}
use Rattle.hg_model.specs.declared.trees.Output.{Output}

pub record Builder (S : Type 0) : Type 0 where
  pub next : S → ℕ  -- the index of the node that comes next
  pub node : S → Node → S
  pub text : S → List ℕ → S  -- a text, and its node
  pub output : S → Output → S
  pub table : S → FromTable → S
  pub group : S → ℕ → S
  pub key : S → OrderKey → S
  pub column : S → NewColumn → S
  pub name : S → List ℕ → S
  pub set : S → List ℕ → ℕ → S
  pub value : S → Literal → S
  pub text_value : S → List ℕ → S  -- a text, and its value
  pub row : S → S  -- the values of a row are all there

pub record Draft : Type 0 where
  pub read : Read
  pub outputs : List Output
  pub tables : List FromTable
  pub group : List ℕ
  pub order : List OrderKey
  pub columns : List NewColumn
  pub names : List (List ℕ)
  pub sets : List (List ℕ × ℕ)
  pub values : List Literal
  pub ends : List ℕ

abbrev pub empty_draft : Draft
empty_draft = record { read = nothing_read; outputs = []; tables = []; group = []; order = []; columns = []; names = []; sets = []; values = []; ends = [] }

-- a text behind the texts that were read, and the literal that names it
abbrev pub text_at : Read → List ℕ → Literal
text_at r t = literal.Text (record { at = length r.texts; len = length t })

abbrev pub with_text : Read → List ℕ → Read
with_text r t = record { nodes = r.nodes; texts = r.texts ++ t }

abbrev pub with_text_node : Read → List ℕ → Read
with_text_node r t = record { nodes = r.nodes ++ node.Lit (text_at r t) ∷ []; texts = r.texts ++ t }

abbrev pub plain : Builder Draft
plain = record {
  next = λ g. length g.read.nodes;
  node = λ g n. record g { read = with_node g.read n };
  text = λ g t. record g { read = with_text_node g.read t };
  output = λ g o. record g { outputs = g.outputs ++ o ∷ [] };
  table = λ g t. record g { tables = g.tables ++ t ∷ [] };
  group = λ g n. record g { group = g.group ++ n ∷ [] };
  key = λ g k. record g { order = g.order ++ k ∷ [] };
  column = λ g c. record g { columns = g.columns ++ c ∷ [] };
  name = λ g w. record g { names = g.names ++ w ∷ [] };
  set = λ g w n. record g { sets = g.sets ++ (w, n) ∷ [] };
  value = λ g v. record g { values = g.values ++ v ∷ [] };
  text_value = λ g t. record g { read = with_text g.read t; values = g.values ++ text_at g.read t ∷ [] };
  row = λ g. record g { ends = g.ends ++ length g.values ∷ [] };
}
