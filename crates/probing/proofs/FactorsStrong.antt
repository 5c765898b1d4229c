-- A masked product of which also both factors of each field product are shown is strongly non-interfering all the same, since a wide place asks no
-- more than one share of each factor. Assumes nothing.
use mathlib.Core.Path.{◌≡◌, refl, sym, ap, ap₂, ◌∙◌}
use mathlib.Core.List.{List, [], ◌∷◌, ◌++◌}
use Prim.Native.Nat.{ℕ, suc, ◌+◌, ◌*◌, ◌≤◌}
use native.Mathlib.Omega.{arith}
use lib.ListN.{length, get_or, length-append}
use Rattle.xor.specs.Lists.{at, tab, All, done, ◌&◌, Below}
use Rattle.xor.proofs.ListsLaws.{all_head, all_tail, all-front, all_rest, all_append, length-tab, at-tab}
use Rattle.gf256.specs.Field.{times}
use Rattle.gf256.proofs.ProductLaws.{times_lt}
use Rattle.isw.specs.Place.{place_count, product_need, sheet, product}
use Rattle.gadgets.specs.Steps.{Agree}
use Rattle.gadgets.specs.Gadgets.{bytes, Common, Gadget, Kept}
use Rattle.gadgets.proofs.PicksLaws.{before, cut_count, before_below, beyond_below, cut_same, length-each, Located, located}
use Rattle.gadgets.proofs.CouplingLaws.{coupled-map}
use Rattle.gadgets.proofs.ProductStrong.{product_gadget}
use Rattle.probing.specs.BoxPlaces.{number, factors_sheet, times_sheet, times_count}

module _ (d : ℕ) where
  row : List ℕ → ℕ → ℕ → List ℕ
  row b i x = tab (λ j. number (x ∷ at b j ∷ [])) (suc d)

  row-long : (b : List ℕ) (i x : ℕ) → length (row b i x) ≡ suc d
  unfolding row
  row-long b i x = length-tab (λ j. number (x ∷ at b j ∷ [])) (suc d)

  length_factors : (a b : List ℕ) → length a ≡ suc d → length (factors_sheet d a b) ≡ suc d * suc d
  unfolding factors_sheet row
  length_factors a b h = length-each 0 (suc d) (row b) (row-long b) 0 a ∙ ap (λ (n : ℕ). n * suc d) h

  -- what a place of the factors shows
  at_factors : (p : ℕ) (r : Located {A = ℕ} 0 (suc d) (suc d) p) (a b : List ℕ) → length a ≡ suc d
      → at (factors_sheet d a b) p ≡ number (at a r.share ∷ at b r.entry ∷ [])
  unfolding factors_sheet row at
  at_factors p r a b h =
      r.reads (row b) (row-long b) 0 a h ∙ at-tab (λ j. number (get_or a r.share 0 ∷ get_or b j 0 ∷ [])) (suc d) r.entry r.entry_lt

  -- the shares that such places see
  record Both (ps : List ℕ) : Type 0 where
    of_a : List ℕ
    of_b : List ℕ
    as_many_a : length of_a ≡ length ps
    as_many_b : length of_b ≡ length ps
    in_a : Below (suc d) of_a
    in_b : Below (suc d) of_b
    show : (a a' b b' : List ℕ) → length a ≡ suc d → length a' ≡ suc d → Common a a' of_a → Common b b' of_b
        → All (λ p. at (factors_sheet d a b) p ≡ at (factors_sheet d a' b') p) ps

  both : {ps : List ℕ} → Below (suc d * suc d) ps → Both ps
  both done =
      record { of_a = []; of_b = []; as_many_a = refl; as_many_b = refl; in_a = done; in_b = done; show = λ a a' b b' l l' ka kb. done }
  both (◌&◌ {x = p} h hs) =
      let r = located {A = ℕ} 0 (suc d) (suc d) p h in
      let t = both hs in
      record {
        of_a = r.share ∷ t.of_a;
        of_b = r.entry ∷ t.of_b;
        as_many_a = ap suc t.as_many_a;
        as_many_b = ap suc t.as_many_b;
        in_a = r.share_lt & t.in_a;
        in_b = r.entry_lt & t.in_b;
        show = λ a a' b b' l l' ka kb.
            (at_factors p r a b l ∙ ap₂ (λ (x y : ℕ). number (x ∷ y ∷ [])) (all_head ka) (all_head kb) ∙ sym (at_factors p r a' b' l'))
            & t.show a a' b b' l l' (all_tail ka) (all_tail kb);
      }

  abbrev G : Gadget 8 d (product_need d) (place_count d) (sheet times d) (product times d)
  G = product_gadget 8 times times_lt d

  times_kept : (ps os : List ℕ) → Below (place_count d + suc d * suc d) ps → Below (suc d) os → length ps + length os ≤ d
      → Kept 8 d (product_need d) (place_count d + suc d * suc d) (λ a b ts. sheet times d a b ts ++ factors_sheet d a b) (product times d) ps os
  times_kept ps os below os_in few =
      let c = place_count d in
      let k = G.sni (before c ps) os (before_below c ps) os_in (omega (arith, cut_count c ps)) in
      let f = both (beyond_below c (suc d * suc d) below) in
      record {
        of_a = k.of_a ++ f.of_a;
        of_b = k.of_b ++ f.of_b;
        few_a = omega (arith, length-append k.of_a f.of_a, k.few_a, f.as_many_a, cut_count c ps);
        few_b = omega (arith, length-append k.of_b f.of_b, k.few_b, f.as_many_b, cut_count c ps);
        in_a = all_append k.in_a f.in_a;
        in_b = all_append k.in_b f.in_b;
        coupled = λ a a' b b' la la' lb lb' ka kb.
            coupled-map 8 (product_need d) (Agree (bytes d) c (before c ps) (λ v. os)) (Agree (bytes d) (c + suc d * suc d) ps (λ v. os))
            (λ ts. (sheet times d a b ts, product times d a b ts)) (λ ts. (sheet times d a' b' ts, product times d a' b' ts))
            (λ y. (y.0 ++ factors_sheet d a b, y.1)) (λ y. (y.0 ++ factors_sheet d a' b', y.1))
            (λ y y' q. record {
              shown = cut_same c y.0 y'.0 (factors_sheet d a b) (factors_sheet d a' b') q.long q.long' ps q.shown
                  (f.show a a' b b' la la' (all_rest k.of_a f.of_a ka) (all_rest k.of_b f.of_b kb));
              alike = q.alike;
              long = length-append y.0 (factors_sheet d a b) ∙ ap₂ ◌+◌ q.long (length_factors a b la);
              long' = length-append y'.0 (factors_sheet d a' b') ∙ ap₂ ◌+◌ q.long' (length_factors a' b' la');
              fine = q.fine;
              fine' = q.fine';
            })
            (k.coupled a a' b b' la la' lb lb' (all-front k.of_a f.of_a ka) (all-front k.of_b f.of_b kb));
      }

  pub times_gadget : Gadget 8 d (product_need d) (times_count d) (times_sheet d) (product times d)
  unfolding times_count times_sheet
  times_gadget =
      record {
        sheet_surplus = λ a b ts us h. ap (λ (l : List ℕ). l ++ factors_sheet d a b) (G.sheet_surplus a b ts us h);
        out_surplus = G.out_surplus;
        sheet_length = λ a b ts h.
            length-append (sheet times d a b ts) (factors_sheet d a b) ∙ ap₂ ◌+◌ (G.sheet_length a b ts h) (length_factors a b h);
        out_length = G.out_length;
        sni = times_kept;
      }
