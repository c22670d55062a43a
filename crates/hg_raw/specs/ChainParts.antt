-- A chain's fields, as contracts see them, and what is true of them.
use Rattle.std.specs.Prelude.{◌≡◌, ◌<◌, ◌^◌, true}
use Rattle.hg_raw.specs.Frames.{ChainSeen, numbers, distinct}
use Rattle.hg_raw.specs.Links.{nil, linked, Sized, Below, first_of, last_of}
use Rattle.hg_raw.specs.declared.chain.Chain.TheInside.{Inside}

abbrev pub chain_seen : Inside → ChainSeen
chain_seen c = record { region = record { words = c.words.base; pages = c.pages.base; frames = c.frames }; frames = c.pages.held }

pub record IsChain (c : Inside) : Type 0 where
  pub word_size : c.words.size ≡ 8
  pub page_size : c.pages.size ≡ 4096
  pub words : c.words.held ≡ linked nil (numbers c.pages.held)
  pub sized : Sized 4096 c.pages.held
  pub below : Below c.frames (numbers c.pages.held)
  pub few : c.frames < 2 ^ 32
  pub distinct : distinct (numbers c.pages.held) ≡ true
  pub first : c.first ≡ first_of (numbers c.pages.held)
  pub last : c.last ≡ last_of (numbers c.pages.held)
