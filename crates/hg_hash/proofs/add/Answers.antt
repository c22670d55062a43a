use Rattle.std.proofs.Common.{arith, ◌%◌, ◌<◌, ℕ}
use Rattle.hg_hash.proofs.Adding.{Adds, has_word_before, has_word_after, adds}
use Rattle.hg_hash.proofs.add.Goals as goal

pub word-newest-requires : goal.word-newest-requires
word-newest-requires g c =
    has_word_before (g.H.Pages.state c.args.heaps.now) c.args.h.0 c.root-directory.result.word (c.args.hash % 256) c.learn_heaps.ensures c.requires.buckets c.root-directory.ensures.value (omega arith)

pub set_word-requires-clause-inside : goal.set_word-requires-clause-inside
set_word-requires-clause-inside g c =
    let h : ℕ = c.args.h.0 in
    let k : ℕ = c.args.hash % 256 in
    let below : k < 256 = omega arith in
    has_word_after (g.H.Pages.state c.args.heaps.now) (g.H.Pages.state c.place.new.self) h k c.root-directory.result.word c.word-newest.result.word c.in_ok-row.row.word c.args.payload.now
    (record {
      heaps = c.learn_heaps.ensures;
      buckets = c.requires.buckets;
      bucket_below = below;
      dir_word = c.root-directory.ensures.value;
      newest_word = c.word-newest.ensures.value;
      after = c.in_ok-row.ensures.ok;
      heaps_after = c.learn_heaps-2.ensures;
      row_word = c.in_ok-row.ensures.address;
      kept = c.in_ok-row.ensures.kept;
    })

pub returns-clause-front : goal.returns-clause-front
returns-clause-front g c =
    let h : ℕ = c.args.h.0 in
    let k : ℕ = c.args.hash % 256 in
    let below : k < 256 = omega arith in
    let all : Adds (g.H.Pages.state c.args.heaps.now) (g.H.Pages.state c.set_word.new.self) h k c.args.payload.now =
    adds (g.H.Pages.state c.args.heaps.now) (g.H.Pages.state c.place.new.self) (g.H.Pages.state c.set_word.new.self) h k c.root-directory.result.word c.word-newest.result.word c.in_ok-row.row.word c.args.payload.now
    (record {
      heaps = c.learn_heaps.ensures;
      buckets = c.requires.buckets;
      bucket_below = below;
      dir_word = c.root-directory.ensures.value;
      newest_word = c.word-newest.ensures.value;
      after = c.in_ok-row.ensures.ok;
      heaps_after = c.learn_heaps-2.ensures;
      row_word = c.in_ok-row.ensures.address;
      kept = c.in_ok-row.ensures.kept;
    })
    c.set_word.ensures in
    all.front

pub returns-clause-others : goal.returns-clause-others
returns-clause-others g c =
    let h : ℕ = c.args.h.0 in
    let k : ℕ = c.args.hash % 256 in
    let below : k < 256 = omega arith in
    let all : Adds (g.H.Pages.state c.args.heaps.now) (g.H.Pages.state c.set_word.new.self) h k c.args.payload.now =
    adds (g.H.Pages.state c.args.heaps.now) (g.H.Pages.state c.place.new.self) (g.H.Pages.state c.set_word.new.self) h k c.root-directory.result.word c.word-newest.result.word c.in_ok-row.row.word c.args.payload.now
    (record {
      heaps = c.learn_heaps.ensures;
      buckets = c.requires.buckets;
      bucket_below = below;
      dir_word = c.root-directory.ensures.value;
      newest_word = c.word-newest.ensures.value;
      after = c.in_ok-row.ensures.ok;
      heaps_after = c.learn_heaps-2.ensures;
      row_word = c.in_ok-row.ensures.address;
      kept = c.in_ok-row.ensures.kept;
    })
    c.set_word.ensures in
    all.others

pub returns-clause-buckets : goal.returns-clause-buckets
returns-clause-buckets g c =
    let h : ℕ = c.args.h.0 in
    let k : ℕ = c.args.hash % 256 in
    let below : k < 256 = omega arith in
    let all : Adds (g.H.Pages.state c.args.heaps.now) (g.H.Pages.state c.set_word.new.self) h k c.args.payload.now =
    adds (g.H.Pages.state c.args.heaps.now) (g.H.Pages.state c.place.new.self) (g.H.Pages.state c.set_word.new.self) h k c.root-directory.result.word c.word-newest.result.word c.in_ok-row.row.word c.args.payload.now
    (record {
      heaps = c.learn_heaps.ensures;
      buckets = c.requires.buckets;
      bucket_below = below;
      dir_word = c.root-directory.ensures.value;
      newest_word = c.word-newest.ensures.value;
      after = c.in_ok-row.ensures.ok;
      heaps_after = c.learn_heaps-2.ensures;
      row_word = c.in_ok-row.ensures.address;
      kept = c.in_ok-row.ensures.kept;
    })
    c.set_word.ensures in
    all.buckets

pub returns-clause-rows : goal.returns-clause-rows
returns-clause-rows g c =
    let h : ℕ = c.args.h.0 in
    let k : ℕ = c.args.hash % 256 in
    let below : k < 256 = omega arith in
    let all : Adds (g.H.Pages.state c.args.heaps.now) (g.H.Pages.state c.set_word.new.self) h k c.args.payload.now =
    adds (g.H.Pages.state c.args.heaps.now) (g.H.Pages.state c.place.new.self) (g.H.Pages.state c.set_word.new.self) h k c.root-directory.result.word c.word-newest.result.word c.in_ok-row.row.word c.args.payload.now
    (record {
      heaps = c.learn_heaps.ensures;
      buckets = c.requires.buckets;
      bucket_below = below;
      dir_word = c.root-directory.ensures.value;
      newest_word = c.word-newest.ensures.value;
      after = c.in_ok-row.ensures.ok;
      heaps_after = c.learn_heaps-2.ensures;
      row_word = c.in_ok-row.ensures.address;
      kept = c.in_ok-row.ensures.kept;
    })
    c.set_word.ensures in
    all.rows

pub returns-clause-chains : goal.returns-clause-chains
returns-clause-chains g c =
    let h : ℕ = c.args.h.0 in
    let k : ℕ = c.args.hash % 256 in
    let below : k < 256 = omega arith in
    let all : Adds (g.H.Pages.state c.args.heaps.now) (g.H.Pages.state c.set_word.new.self) h k c.args.payload.now =
    adds (g.H.Pages.state c.args.heaps.now) (g.H.Pages.state c.place.new.self) (g.H.Pages.state c.set_word.new.self) h k c.root-directory.result.word c.word-newest.result.word c.in_ok-row.row.word c.args.payload.now
    (record {
      heaps = c.learn_heaps.ensures;
      buckets = c.requires.buckets;
      bucket_below = below;
      dir_word = c.root-directory.ensures.value;
      newest_word = c.word-newest.ensures.value;
      after = c.in_ok-row.ensures.ok;
      heaps_after = c.learn_heaps-2.ensures;
      row_word = c.in_ok-row.ensures.address;
      kept = c.in_ok-row.ensures.kept;
    })
    c.set_word.ensures in
    all.chains

pub returns-clause-only : goal.returns-clause-only
returns-clause-only g c =
    let h : ℕ = c.args.h.0 in
    let k : ℕ = c.args.hash % 256 in
    let below : k < 256 = omega arith in
    let all : Adds (g.H.Pages.state c.args.heaps.now) (g.H.Pages.state c.set_word.new.self) h k c.args.payload.now =
    adds (g.H.Pages.state c.args.heaps.now) (g.H.Pages.state c.place.new.self) (g.H.Pages.state c.set_word.new.self) h k c.root-directory.result.word c.word-newest.result.word c.in_ok-row.row.word c.args.payload.now
    (record {
      heaps = c.learn_heaps.ensures;
      buckets = c.requires.buckets;
      bucket_below = below;
      dir_word = c.root-directory.ensures.value;
      newest_word = c.word-newest.ensures.value;
      after = c.in_ok-row.ensures.ok;
      heaps_after = c.learn_heaps-2.ensures;
      row_word = c.in_ok-row.ensures.address;
      kept = c.in_ok-row.ensures.kept;
    })
    c.set_word.ensures in
    all.only

pub returns-clause-only_rows : goal.returns-clause-only_rows
returns-clause-only_rows g c =
    let h : ℕ = c.args.h.0 in
    let k : ℕ = c.args.hash % 256 in
    let below : k < 256 = omega arith in
    let all : Adds (g.H.Pages.state c.args.heaps.now) (g.H.Pages.state c.set_word.new.self) h k c.args.payload.now =
    adds (g.H.Pages.state c.args.heaps.now) (g.H.Pages.state c.place.new.self) (g.H.Pages.state c.set_word.new.self) h k c.root-directory.result.word c.word-newest.result.word c.in_ok-row.row.word c.args.payload.now
    (record {
      heaps = c.learn_heaps.ensures;
      buckets = c.requires.buckets;
      bucket_below = below;
      dir_word = c.root-directory.ensures.value;
      newest_word = c.word-newest.ensures.value;
      after = c.in_ok-row.ensures.ok;
      heaps_after = c.learn_heaps-2.ensures;
      row_word = c.in_ok-row.ensures.address;
      kept = c.in_ok-row.ensures.kept;
    })
    c.set_word.ensures in
    all.only_rows
