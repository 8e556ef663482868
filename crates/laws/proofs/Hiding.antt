-- Reserves stay hidden. Assumes nothing.
use Rattle.std.proofs.Common.{◌≡◌, ℕ, true, List, [], ◌∷◌, ◌++◌, length, refl, subst, append_assoc, arith, length-append}
use mathlib.Core.Bool.{Bool-set}
use mathlib.Core.HLevel.{is_prop→PathP}
use Rattle.std.specs.List.{AllZip}
use Rattle.market.specs.Tenors.{lawful}
use Rattle.market.specs.declared.settings.Settings.{Settings}
use Rattle.market.specs.declared.call.Call.{Call}
use Rattle.market.specs.declared.call.Call.TheVariants.{Entry, Change, Cancel, Tick, Draw}
use Rattle.rules.specs.Board.{Opening, State}
use Rattle.rules.specs.Calls.{step, run, opened}
use Rattle.laws.specs.Hidden.{OpenedAlike, Alike, same, entries, changes, noted, noted_in, last_written, RunsOut, NoneRunsOut, learned, Hidden, Unseen, HiddenFromAll}
use Rattle.laws.proofs.Twins.{KeptAt, Kept, Common, all_alike}

-- ---- openings alike are one

same-settings : (s s' : Settings) → s.tenor ≡ s'.tenor → s.timed ≡ s'.timed → s.rolling ≡ s'.rolling → s.fbs ≡ s'.fbs → s ≡ s'
same-settings s s' e f g h =
    λ i. record {
      tenor = e i;
      timed = f i;
      rolling = g i;
      fbs = h i;
      made = is_prop→PathP (λ j. lawful (e j) (f j) (g j) (h j) ≡ true) (λ j. Bool-set (lawful (e j) (f j) (g j) (h j)) true) s.made s'.made i;
    }

same-opening : (k k' : Opening) → OpenedAlike k k' → k ≡ k'
same-opening k k' a =
    let s = same-settings k.settings k'.settings a.tenor a.timed a.rolling a.fbs in
    λ i. record { settings = s i; bids = a.bids i; offers = a.offers i; ends = a.ends i }

-- ---- one more call

pub run-push : (k : Opening) (S : State) (cs : List Call) (c : Call) → run k S (cs ++ (c ∷ [])) ≡ (step k (run k S cs) c).1
unfolding run
run-push k S [] c = refl
run-push k S (d ∷ cs) c = run-push k (step k S d).1 cs c

pub noted-push : (k : Opening) (S : State) (cs : List Call) (c : Call) (w : ℕ → ℕ) →
    noted_in k S (cs ++ (c ∷ [])) w ≡ noted c (step k (run k S cs) c).0 (noted_in k S cs w)
unfolding run noted_in
noted-push k S [] c w = refl
noted-push k S (d ∷ cs) c w = noted-push k (step k S d).1 cs c (noted d (step k S d).0 w)

-- ---- no draw of the two lists empties a reserve that differs

module _ (k : Opening) (t : ℕ) where
  kept-draw : (cs ds : List Call) (c d : Call) → Alike k t c d →
      ((n : ℕ) → c ≡ Draw → d ≡ Draw → ¬ (last_written k cs n ≡ last_written k ds n) → ¬ (RunsOut k cs n) × ¬ (RunsOut k ds n)) →
      KeptAt k (last_written k cs) (last_written k ds) (run k opened cs) (run k opened ds) c
  kept-draw cs ds _ _ (same (Entry e)) f = tt
  kept-draw cs ds _ _ (same (Change c)) f = tt
  kept-draw cs ds _ _ (same (Cancel c)) f = tt
  kept-draw cs ds _ _ (same (Tick u)) f = tt
  kept-draw cs ds _ _ (same Draw) f =
      λ n d. let g = f n refl refl d in (
        λ e. g.0 (record { before = e.0; after = rw (run-push k opened cs Draw) e.1 }),
        λ e. g.1 (record { before = e.0; after = rw (run-push k opened ds Draw) e.1 }),
      )
  kept-draw cs ds _ _ (entries e r r' by w w') f = tt
  kept-draw cs ds _ _ (changes c r r' by w w') f = tt

  kept_push : (bs bs' cs ds : List Call) (c d : Call) →
      Kept k (last_written k (bs ++ (c ∷ []))) (last_written k (bs' ++ (d ∷ []))) (run k opened (bs ++ (c ∷ []))) (run k opened (bs' ++ (d ∷ []))) cs ds →
      Kept k (noted c (step k (run k opened bs) c).0 (last_written k bs)) (noted d (step k (run k opened bs') d).0 (last_written k bs'))
      (step k (run k opened bs) c).1 (step k (run k opened bs') d).1 cs ds
  kept_push bs bs' cs ds c d h =
      rw (run-push k opened bs c, run-push k opened bs' d, noted-push k opened bs c (λ n. 0), noted-push k opened bs' d (λ n. 0)) at h

  kept_from : (bs bs' cs ds : List Call) → length bs ≡ length bs' → AllZip (Alike k t) cs ds → NoneRunsOut k k (bs ++ cs) (bs' ++ ds) →
      Kept k (last_written k bs) (last_written k bs') (run k opened bs) (run k opened bs') cs ds
  kept_from bs bs' [] ds e w f = tt
  kept_from bs bs' (c ∷ cs) [] e w f = tt
  kept_from bs bs' (c ∷ cs) (d ∷ ds) e w f =
      let longer : length (bs ++ (c ∷ [])) ≡ length (bs' ++ (d ∷ [])) = simp length-append (omega arith) in (
        kept-draw bs bs' c d w.0 (λ n x y. f bs cs bs' ds (rw x refl) (rw y refl) e n),
        kept_push bs bs' cs ds c d
            (kept_from (bs ++ (c ∷ [])) (bs' ++ (d ∷ [])) cs ds longer w.1
            (rw (append_assoc bs (c ∷ []) cs, append_assoc bs' (d ∷ []) ds) f)),
      )

common : (k : Opening) (t : ℕ) (cs ds : List Call) → AllZip (Alike k t) cs ds → NoneRunsOut k k cs ds → Common k opened opened cs ds
unfolding noted_in run
common k t cs ds w f =
    all_alike k t (λ n. 0) (λ n. 0) opened opened cs ds
    (record { board = refl; near = record { agree = λ n e. refl; positive = λ n d. absurd (d refl) } }) w (kept_from k t [] [] cs ds refl w f)

pub hidden : Hidden
hidden k k' t cs ds a w =
    subst (λ (j : Opening). NoneRunsOut k j cs ds → learned t k opened cs ≡ learned t j opened ds) (same-opening k k' a)
    (λ f. (common k t cs ds w f).learnt t)

pub hidden-from-all : HiddenFromAll
hidden-from-all k k' t cs ds a w =
    subst (λ (j : Opening). NoneRunsOut k j cs ds → Unseen k j cs ds) (same-opening k k' a)
    (λ f. let c = common k t cs ds w f in record { answered = c.answered; board = c.board })
