use Rattle.std.specs.Prelude.{replicate}
use Rattle.hg_hash.proofs.Making.{Makes, makes}
use Rattle.hg_hash.proofs.make_directory.Goals as goal

pub returns-clause-buckets : goal.returns-clause-buckets
returns-clause-buckets g c =
    let all : Makes (g.H.Pages.state c.args.heaps.now) (g.H.Pages.state c.set_root.new.self) c.args.h.0 256 =
    makes (g.H.Pages.state c.args.heaps.now) (g.H.Pages.state c.place_words.new.self) (g.H.Pages.state c.set_root.new.self) c.args.h.0 256 c.in_ok-directory.directory.word (replicate 256 0)
    (record {
      heaps = c.learn_heaps.ensures;
      is_locked = c.requires;
      after = c.in_ok-directory.ensures.ok;
      heaps_after = c.learn_heaps-2.ensures;
      dir_word = c.in_ok-directory.ensures.address;
      there = c.in_ok-directory.ensures.there;
    })
    c.set_root.ensures in
    all.buckets

pub returns-clause-empty : goal.returns-clause-empty
returns-clause-empty g c =
    let all : Makes (g.H.Pages.state c.args.heaps.now) (g.H.Pages.state c.set_root.new.self) c.args.h.0 256 =
    makes (g.H.Pages.state c.args.heaps.now) (g.H.Pages.state c.place_words.new.self) (g.H.Pages.state c.set_root.new.self) c.args.h.0 256 c.in_ok-directory.directory.word (replicate 256 0)
    (record {
      heaps = c.learn_heaps.ensures;
      is_locked = c.requires;
      after = c.in_ok-directory.ensures.ok;
      heaps_after = c.learn_heaps-2.ensures;
      dir_word = c.in_ok-directory.ensures.address;
      there = c.in_ok-directory.ensures.there;
    })
    c.set_root.ensures in
    all.empty

pub returns-clause-only : goal.returns-clause-only
returns-clause-only g c =
    let all : Makes (g.H.Pages.state c.args.heaps.now) (g.H.Pages.state c.set_root.new.self) c.args.h.0 256 =
    makes (g.H.Pages.state c.args.heaps.now) (g.H.Pages.state c.place_words.new.self) (g.H.Pages.state c.set_root.new.self) c.args.h.0 256 c.in_ok-directory.directory.word (replicate 256 0)
    (record {
      heaps = c.learn_heaps.ensures;
      is_locked = c.requires;
      after = c.in_ok-directory.ensures.ok;
      heaps_after = c.learn_heaps-2.ensures;
      dir_word = c.in_ok-directory.ensures.address;
      there = c.in_ok-directory.ensures.there;
    })
    c.set_root.ensures in
    all.only

pub returns-clause-only_rows : goal.returns-clause-only_rows
returns-clause-only_rows g c =
    let all : Makes (g.H.Pages.state c.args.heaps.now) (g.H.Pages.state c.set_root.new.self) c.args.h.0 256 =
    makes (g.H.Pages.state c.args.heaps.now) (g.H.Pages.state c.place_words.new.self) (g.H.Pages.state c.set_root.new.self) c.args.h.0 256 c.in_ok-directory.directory.word (replicate 256 0)
    (record {
      heaps = c.learn_heaps.ensures;
      is_locked = c.requires;
      after = c.in_ok-directory.ensures.ok;
      heaps_after = c.learn_heaps-2.ensures;
      dir_word = c.in_ok-directory.ensures.address;
      there = c.in_ok-directory.ensures.there;
    })
    c.set_root.ensures in
    all.only_rows
