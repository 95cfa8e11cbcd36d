-- A keep that remembers, around another one.
use Rattle.std.specs.Prelude.{List}
use Rattle.toll_keep.specs.Common.{Bytes}
use Rattle.toll_keep.specs.Content.{Content}
use Rattle.toll_keep.specs.Meaning.{Meaning, Part, meaning_for, meaning_of}
use Rattle.toll_keep.specs.Remembered.{IsCacheFor, IsCacheOf, OnlyKnownFor, OnlyKnownHaveRows}
use Rattle.toll_keep.specs.declared.cache.Cache.{Cache}
use Rattle.toll_keep.specs.declared.keep.Keep.{Ghosts}
use Rattle.toll_keep.specs.declared.cached_keep.CachedKeep.{CachedKeep}

-- The keep inside holds the content, the cache is of it, and only known owners have rows in it.
abbrev pub HoldsAround : {K : Type 0} {g : Ghosts K} → (K → Content → Type 0) → CachedKeep K g → Content → Type 0
HoldsAround holds r c = holds r.keep c × IsCacheOf c r.cache × OnlyKnownHaveRows c

-- The keep inside holds the content for these owners, so does the cache, and only known ones of them have rows in it.
abbrev pub HoldsAroundFor : {K : Type 0} {g : Ghosts K} → List Bytes → (K → Content → Type 0) → CachedKeep K g → Content → Type 0
HoldsAroundFor os holds r c = holds r.keep c × IsCacheFor os c r.cache × OnlyKnownFor os c

-- what a keep that remembers holds and leaves for these owners
abbrev pub cached_part : {K : Type 0} (g : Ghosts K) → List Bytes → Part (CachedKeep K g)
cached_part g os = record {
  holds = λ r c. HoldsAroundFor os (g.part os).holds r c;
  leaves = λ r cs. (g.part os).leaves r.keep cs;
}

-- its meaning for these owners
abbrev pub cached_for : {K : Type 0} (g : Ghosts K) → List Bytes → Meaning (CachedKeep K g)
cached_for g os = meaning_for (meaning_of (λ r. r.keep) g.meaning) (cached_part g) os

-- ---- what is held is held for any owners

pub cache_narrowed : (os : List Bytes) (c : Content) (r : Cache) → IsCacheOf c r → IsCacheFor os c r
cache_narrowed os c r of = record {
  slices = λ i d lt own. of.slices i d lt;
  owners = of.owners;
  units = of.units;
  graphs = λ known there own. of.graphs known there;
}

pub known_narrowed : (os : List Bytes) (c : Content) → OnlyKnownHaveRows c → OnlyKnownFor os c
known_narrowed os c only = λ o own unknown. only o unknown
