-- THE HIDING RULES, for any run that computes on secrets in shares: d of its places say nothing about the secrets (security against d probes).
-- The counting is that of document 01's demand 3, "Places in one product" (isw's `Hiding`); that whole words are free, document 02, wish 6, decides.
-- Assumes nothing: these are definitions. `Runs` has the runs that the rules are proved of.
use Rattle.std.specs.Prelude.{◌≡◌, List, map, ℕ, ◌+◌, ◌≤◌, ◌<◌, length, take, drop}
use Rattle.xor.specs.Lists.{at, All, Below}
use Rattle.isw.specs.Place.{listed}
use Rattle.isw.specs.Hiding.{how_many, same}
use Rattle.tape_words.specs.Words.{bytes_of, words_for}
use Rattle.choices.specs.Choices.{choices}

-- ---- RUNS

-- a run on secrets. A choice (of the randomness) is its masks and its tape; each byte of either may be any, and none is tied to another
pub record Run : Type 1 where
  -- what is to be hidden
  pub Secret : Type 0
  -- a secret of the right form: so many bytes
  pub good : Secret → Type 0
  -- how many masks a choice has
  pub masks : ℕ
  -- how many bytes of the tape the steps draw
  pub need : ℕ
  -- how many places there are
  pub count : ℕ
  -- the values at all places (a transcript) that the choice makes of the secret
  pub sheet : Secret → (masks tape : List ℕ) → List ℕ

-- ---- on a tape of bytes, as isw's rule

-- how many choices put just the reading's values (the observation) at the listed places (the probes)
unfoldable pub readings : (r : Run) → r.Secret → (list reading : List ℕ) → ℕ
readings r s ps rs = how_many 256 (r.masks + r.need) (λ cs. same (listed (r.sheet s (take r.masks cs) (drop r.masks cs)) ps) rs)

-- THE RULE: for every list of at most d places, every reading and any two secrets, equally many choices give the reading
unfoldable pub Hides : (d : ℕ) → Run → Type 0
Hides d r =
    (list reading : List ℕ) (s s' : r.Secret) → length list ≤ d → Below r.count list → r.good s → r.good s'
    → readings r s list reading ≡ readings r s' list reading

-- ---- through views: what is read at a place may be any function of what stands there. So the rule speaks of every value that a routine computes
-- from one place, as inside one field product or from one share by itself, however it does that

-- a view is a place and a function
abbrev pub View : Type 0
View = ℕ × (ℕ → ℕ)

-- what views show of a sheet
unfoldable pub viewed : (sheet : List ℕ) → List View → List ℕ
viewed bs vs = map (λ v. v.1 (at bs v.0)) vs

-- how many choices give just the reading's values to the views
unfoldable pub view_readings : (r : Run) → r.Secret → List View → (reading : List ℕ) → ℕ
view_readings r s vs rs = how_many 256 (r.masks + r.need) (λ cs. same (viewed (r.sheet s (take r.masks cs) (drop r.masks cs)) vs) rs)

-- the rule for at most d views
unfoldable pub ViewsHide : (d : ℕ) → Run → Type 0
ViewsHide d r =
    (views : List View) (reading : List ℕ) (s s' : r.Secret) → length views ≤ d → All (λ v. v.0 < r.count) views → r.good s → r.good s'
    → view_readings r s views reading ≡ view_readings r s' views reading

-- ---- through views, on a tape of 32-bit words, each read lowest byte first

-- how many choices of masks and of n words give just the reading's values to the views
unfoldable pub word_readings : (r : Run) (n : ℕ) → r.Secret → List View → (reading : List ℕ) → ℕ
word_readings r n s vs rs = choices r.masks n (λ ms ws. same (viewed (r.sheet s ms (bytes_of ws)) vs) rs)

-- the rule, on every tape that has the words of the run
unfoldable pub WordsHide : (d : ℕ) → Run → Type 0
WordsHide d r =
    (n : ℕ) (views : List View) (reading : List ℕ) (s s' : r.Secret) → words_for r.need ≤ n
    → length views ≤ d → All (λ v. v.0 < r.count) views → r.good s → r.good s'
    → word_readings r n s views reading ≡ word_readings r n s' views reading
