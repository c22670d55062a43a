use Rattle.std.proofs.Common.{arith, ◌%◌, ◌<◌, ℕ}
use Rattle.hg_hash.proofs.Adding.{Found, has_word_before, first_found}
use Rattle.hg_hash.proofs.first.Goals as goal

pub word-requires : goal.word-requires
word-requires g c =
    has_word_before (g.H.Pages.state c.args.heaps.now) c.args.h.0 c.root-directory.result.word (c.args.hash % 256) c.learn_heaps.ensures c.requires c.root-directory.ensures.value (omega arith)

pub returns-clause-chain : goal.returns-clause-chain
returns-clause-chain g c =
    let k : ℕ = c.args.hash % 256 in
    let below : k < 256 = omega arith in
    let all : Found (g.H.Pages.state c.args.heaps.now) c.args.h.0 k c.word.result.word =
    first_found (g.H.Pages.state c.args.heaps.now) c.args.h.0 c.root-directory.result.word k c.word.result.word c.learn_heaps.ensures c.requires c.root-directory.ensures.value below c.word.ensures.value in
    all.chain_is

pub returns-clause-newest : goal.returns-clause-newest
returns-clause-newest g c =
    let k : ℕ = c.args.hash % 256 in
    let below : k < 256 = omega arith in
    let all : Found (g.H.Pages.state c.args.heaps.now) c.args.h.0 k c.word.result.word =
    first_found (g.H.Pages.state c.args.heaps.now) c.args.h.0 c.root-directory.result.word k c.word.result.word c.learn_heaps.ensures c.requires c.root-directory.ensures.value below c.word.ensures.value in
    all.newest

pub returns-clause-nil : goal.returns-clause-nil
returns-clause-nil g c =
    let k : ℕ = c.args.hash % 256 in
    let below : k < 256 = omega arith in
    let all : Found (g.H.Pages.state c.args.heaps.now) c.args.h.0 k c.word.result.word =
    first_found (g.H.Pages.state c.args.heaps.now) c.args.h.0 c.root-directory.result.word k c.word.result.word c.learn_heaps.ensures c.requires c.root-directory.ensures.value below c.word.ensures.value in
    all.nil

pub returns-clause-empty : goal.returns-clause-empty
returns-clause-empty g c =
    let k : ℕ = c.args.hash % 256 in
    let below : k < 256 = omega arith in
    let all : Found (g.H.Pages.state c.args.heaps.now) c.args.h.0 k c.word.result.word =
    first_found (g.H.Pages.state c.args.heaps.now) c.args.h.0 c.root-directory.result.word k c.word.result.word c.learn_heaps.ensures c.requires c.root-directory.ensures.value below c.word.ensures.value in
    all.empty
