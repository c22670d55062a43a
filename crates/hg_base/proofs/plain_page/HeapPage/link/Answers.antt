use Rattle.std.proofs.Common.{◌≡◌, ◌∙◌, ap, subst, arith, ℕ, List, Option, take, drop, sum_by, None, IsSome, option_and_then}
use Rattle.hg_base.specs.HeapContent.{payload_of, row_link}
use Rattle.hg_base.specs.PlainEntries.{bytes_used, links_used, object_of, payload_at}
use Rattle.hg_base.specs.PlainPageLaws.{Tells, tells, entries-of}
use Rattle.std.proofs.lemmas.Bool.{false≢true}
use Rattle.hg_base.proofs.plain_page.HeapPage.link.Goals as goal

pub index-requires : goal.index-requires
index-requires c = let n = entries-of c.self.inside c.args.self.now c.self.view_is in let i = c.requires.inside in omega arith

pub unreachable-requires : goal.unreachable-requires
unreachable-requires c =
    let t : Tells c.self.inside c.args.self.now c.args.index c.index.result.now =
    tells c.self.inside c.args.self.now c.args.index c.index.result.now c.self.invariant c.self.view_is c.requires.inside c.index.ensures in
    let b : List ℕ = drop (sum_by bytes_used (take c.args.index c.self.inside.entries.items)) c.self.inside.bytes.items in
    let l : List (Option ℕ) = drop (sum_by links_used (take c.args.index c.self.inside.entries.items)) c.self.inside.links.items in
    let none : payload_at c.args.self.now c.args.index ≡ None = ap (option_and_then payload_of) t.object ∙ ap (λ x. payload_of (object_of x b l)) c.in-Directory.is in
    false≢true (subst (λ (o : Option (List ℕ)). IsSome o) none c.requires.row)

pub returns : goal.returns
returns c =
    let t : Tells c.self.inside c.args.self.now c.args.index c.index.result.now =
    tells c.self.inside c.args.self.now c.args.index c.index.result.now c.self.invariant c.self.view_is c.requires.inside c.index.ensures in
    let b : List ℕ = drop (sum_by bytes_used (take c.args.index c.self.inside.entries.items)) c.self.inside.bytes.items in
    let l : List (Option ℕ) = drop (sum_by links_used (take c.args.index c.self.inside.entries.items)) c.self.inside.links.items in
    ap (option_and_then row_link) t.object ∙ ap (λ x. row_link (object_of x b l)) c.in-Row.is
