-- From coupled runs to the hiding rules, for any run: on bytes, through views, and on words. Assumes nothing.
use mathlib.Core.Path.{◌≡◌, ap}
use mathlib.Core.List.{List, ◌++◌, map}
use Prim.Native.Nat.{ℕ, ◌+◌, ◌≤◌}
use lib.ListN.{length, take, drop, length-map}
use Rattle.xor.specs.Lists.{Below}
use Rattle.xor.proofs.ListsLaws.{all_map, all_of_map, all_to_map, map_cong}
use Rattle.isw.specs.Hiding.{same}
use Rattle.choices.proofs.ChoicesLaws.{choices_alike}
use Rattle.gadgets.specs.Coupling.{Coupled}
use Rattle.gadgets.proofs.GadgetsLaws.{Shown, counted, counted_alike}
use Rattle.probing.specs.Hiding.{Run, readings, Hides, View, viewed, view_readings, ViewsHide, word_readings, WordsHide}

-- a run whose places hide: its sheets on any two secrets are coupled at any d places, and it heeds no surplus
pub record CoupledRun (d : ℕ) (r : Run) : Type 0 where
  pub surplus : (s : r.Secret) (ms us vs : List ℕ) → r.need ≤ length us → r.sheet s ms (us ++ vs) ≡ r.sheet s ms us
  pub coupled : (ps : List ℕ) (s s' : r.Secret) → length ps ≤ d → Below r.count ps → r.good s → r.good s'
      → Coupled 8 (r.masks + r.need) (Shown ps)
      (λ cs. r.sheet s (take r.masks cs) (drop r.masks cs)) (λ cs. r.sheet s' (take r.masks cs) (drop r.masks cs))

-- the places that views look at
abbrev pub places_of : List View → List ℕ
places_of vs = map (λ v. v.0) vs

-- sheets that agree there look alike to the views
pub viewed-alike : (vs : List View) (x x' : List ℕ) → Shown (places_of vs) x x' → viewed x vs ≡ viewed x' vs
unfolding viewed
viewed-alike vs x x' h = map_cong _ _ (all_map (λ v e. ap v.1 e) (all_of_map (λ v. v.0) vs h))

module _ {d : ℕ} {r : Run} (H : CoupledRun d r) where
  pub hides : Hides d r
  unfolding Hides readings
  hides ps rs s s' few below g g' = counted_alike 8 (r.masks + r.need) ps rs _ _ (H.coupled ps s s' few below g g')

  pub views_hide : ViewsHide d r
  unfolding ViewsHide view_readings
  views_hide vs rs s s' few below g g' =
      counted 8 (r.masks + r.need) (Shown (places_of vs)) _ _ (λ x. same (viewed x vs) rs)
      (λ x x' h. ap (λ (l : List ℕ). same l rs) (viewed-alike vs x x' h))
      (H.coupled (places_of vs) s s' (rw length-map few) (all_to_map (λ v. v.0) below) g g')

  pub words_hide : WordsHide d r
  unfolding WordsHide word_readings ViewsHide view_readings
  words_hide n vs rs s s' enough few below g g' =
      choices_alike r.masks r.need n (λ ms ts. same (viewed (r.sheet s ms ts) vs) rs) (λ ms ts. same (viewed (r.sheet s' ms ts) vs) rs)
      (λ ms us ws h. ap (λ (l : List ℕ). same (viewed l vs) rs) (H.surplus s ms us ws h))
      (λ ms us ws h. ap (λ (l : List ℕ). same (viewed l vs) rs) (H.surplus s' ms us ws h))
      enough (views_hide vs rs s s' few below g g')
