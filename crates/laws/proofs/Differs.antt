-- Two runs that differ in the reserves of one order, none of which runs out. Assumes nothing.
use Rattle.std.proofs.Common.{◌≡◌, ℕ, Bool, true, false, cond, ◌&&◌, eqb, ltb, ◌⊎◌, List, [], ◌∷◌, ◌++◌, length, sym, refl, ◌∙◌, inl, inr, append_assoc, append-nil, arith}
use Rattle.std.specs.List.{AllZip}
use Rattle.std.proofs.lemmas.Bool.{and_parts, ltb-true, cases_eq}
use Rattle.market.specs.declared.call.Call.{Call}
use Rattle.market.specs.declared.call.Call.TheVariants.{Draw}
use Rattle.rules.specs.Base.{write}
use Rattle.rules.specs.Board.{Opening}
use Rattle.rules.specs.Calls.{step, run, opened}
use Rattle.rules.specs.Samples.{ten_years}
use Rattle.rules.specs.Refusing.{is_size}
use Rattle.rules.specs.Opened.{rules}
use Rattle.rules.proofs.Rows.{write-there}
use Rattle.laws.specs.Hidden.{Lawful, Alike, same, entries, changes, noted, noted_in, last_written, RunsOut, NoneRunsOut}
use Rattle.laws.specs.Differing.{bid, again, working, Differing}
use Rattle.laws.proofs.Twins.{Emptied, KeptAt, Kept}
use Rattle.laws.proofs.Hiding.{run-push, noted-push}

-- ---- draws that keep a reserve, one by one, are all the draws there are

module _ (k : Opening) where
  kept-pop : (bs bs' cs ds : List Call) (c d : Call) →
      Kept k (noted c (step k (run k opened bs) c).0 (last_written k bs)) (noted d (step k (run k opened bs') d).0 (last_written k bs'))
      (step k (run k opened bs) c).1 (step k (run k opened bs') d).1 cs ds →
      Kept k (last_written k (bs ++ (c ∷ []))) (last_written k (bs' ++ (d ∷ []))) (run k opened (bs ++ (c ∷ []))) (run k opened (bs' ++ (d ∷ []))) cs ds
  kept-pop bs bs' cs ds c d h =
      rw (run-push k opened bs c, run-push k opened bs' d, noted-push k opened bs c (λ n. 0), noted-push k opened bs' d (λ n. 0)) h

  -- after bs and bs'
  Spared : (bs bs' : List Call) → Type 0
  Spared bs bs' = (n : ℕ) → ¬ (last_written k bs n ≡ last_written k bs' n) → ¬ (RunsOut k bs n) × ¬ (RunsOut k bs' n)

  spared-draw : (bs bs' : List Call) → KeptAt k (last_written k bs) (last_written k bs') (run k opened bs) (run k opened bs') Draw → Spared bs bs'
  unfolding Spared
  spared-draw bs bs' h n d =
      let g = h n d in (
        λ e. g.0 (e.before, rw (run-push k opened bs Draw) at e.after),
        λ e. g.1 (e.before, rw (run-push k opened bs' Draw) at e.after),
      )

  spared : (bs bs' before before' after after' : List Call) → length before ≡ length before' →
      Kept k (last_written k bs) (last_written k bs') (run k opened bs) (run k opened bs') (before ++ (Draw ∷ after)) (before' ++ (Draw ∷ after')) →
      Spared (bs ++ before) (bs' ++ before')
  spared bs bs' [] [] after after' e h = rw (append-nil bs, append-nil bs') (spared-draw bs bs' h.0)
  spared bs bs' [] (d ∷ ds) after after' e h = absurd (omega arith)
  spared bs bs' (c ∷ cs) [] after after' e h = absurd (omega arith)
  spared bs bs' (c ∷ cs) (d ∷ ds) after after' e h =
      rw (← append_assoc bs (c ∷ []) cs, ← append_assoc bs' (d ∷ []) ds)
      (spared (bs ++ (c ∷ [])) (bs' ++ (d ∷ [])) cs ds after after' (omega arith)
      (kept-pop bs bs' (cs ++ (Draw ∷ after)) (ds ++ (Draw ∷ after')) c d h.1))

  none-runs-out : (cs ds : List Call) → Kept k (λ n. 0) (λ n. 0) opened opened cs ds → NoneRunsOut k k cs ds
  unfolding Spared noted_in run
  none-runs-out cs ds h before after before' after' e e' l =
      spared [] [] before before' after after' l (rw (e, e') at h)

-- ---- only order 1 was written with differing sizes

abbrev OnlyFirst : (v v' : ℕ → ℕ) → Type 0
OnlyFirst v v' = (n : ℕ) → ¬ (n ≡ 1) → v n ≡ v' n

first-written : (v v' : ℕ → ℕ) (r r' : ℕ) → OnlyFirst v v' → OnlyFirst (write 1 r v) (write 1 r' v')
first-written v v' r r' f n d = write-there 1 r v n d ∙ f n d ∙ sym (write-there 1 r' v' n d)

same-written : (v v' : ℕ → ℕ) (m r : ℕ) → OnlyFirst v v' → OnlyFirst (write m r v) (write m r v')
unfolding write
same-written v v' m r f n d = go (eqb n m)
  where
    go : (q : Bool) → cond q r (v n) ≡ cond q r (v' n)
    go true = refl
    go false = f n d

-- a draw that leaves it above 0
one : (v v' h h₁ h' h₁' : ℕ → ℕ) → OnlyFirst v v' → (ltb 0 (h₁ 1) && ltb 0 (h₁' 1)) ≡ true →
    (n : ℕ) → ¬ (v n ≡ v' n) → ¬ (Emptied h h₁ n) × ¬ (Emptied h' h₁' n)
one v v' h h₁ h' h₁' f t n d = go (cases_eq n 1)
  where
    go : (n ≡ 1) ⊎ (n ≡ 1 → ⊥) → ¬ (Emptied h h₁ n) × ¬ (Emptied h' h₁' n)
    go (inl e) =
        let p = and_parts (ltb 0 (h₁ 1)) (ltb 0 (h₁' 1)) t in
        let a = ltb-true 0 (h₁ 1) p.0 in
        let b = ltb-true 0 (h₁' 1) p.1 in
        rw e (λ x. let y = x.1 in omega arith, λ x. let y = x.1 in omega arith)
    go (inr g) = absurd (d (f n g))

kept : Kept ten_years (λ n. 0) (λ n. 0) opened opened (working 200 300) (working 500 250)
unfolding rules
kept =
    let f₁ = first-written (λ n. 0) (λ n. 0) 200 500 (λ n d. refl) in
    let f₂ = same-written _ _ 2 0 f₁ in
    let f₃ = same-written _ _ 3 0 f₂ in
    let f₄ = first-written _ _ 300 250 f₃ in
    let f₅ = same-written _ _ 4 0 f₄ in
    let f₆ = same-written _ _ 5 0 f₅ in (
      tt,
      (
        one _ _ _ _ _ _ f₁ refl,
        (
          tt,
          (
            one _ _ _ _ _ _ f₂ refl,
            (
              one _ _ _ _ _ _ f₂ refl,
              (
                one _ _ _ _ _ _ f₂ refl,
                (
                  tt,
                  (
                    one _ _ _ _ _ _ f₂ refl,
                    (
                      tt,
                      (
                        one _ _ _ _ _ _ f₃ refl,
                        (
                          one _ _ _ _ _ _ f₃ refl,
                          (
                            tt,
                            (
                              one _ _ _ _ _ _ f₄ refl,
                              (
                                tt,
                                (
                                  one _ _ _ _ _ _ f₄ refl,
                                  (
                                    one _ _ _ _ _ _ f₄ refl,
                                    (
                                      tt,
                                      (
                                        one _ _ _ _ _ _ f₅ refl,
                                        (
                                          one _ _ _ _ _ _ f₅ refl,
                                          (
                                            tt,
                                            (
                                              one _ _ _ _ _ _ f₅ refl,
                                              (
                                                one _ _ _ _ _ _ f₅ refl,
                                                (
                                                  one _ _ _ _ _ _ f₅ refl,
                                                  (
                                                    tt,
                                                    (
                                                      one _ _ _ _ _ _ f₆ refl,
                                                      (one _ _ _ _ _ _ f₆ refl, (one _ _ _ _ _ _ f₆ refl, tt)),
                                                    ),
                                                  ),
                                                ),
                                              ),
                                            ),
                                          ),
                                        ),
                                      ),
                                    ),
                                  ),
                                ),
                              ),
                            ),
                          ),
                        ),
                      ),
                    ),
                  ),
                ),
              ),
            ),
          ),
        ),
      ),
    )

lawful : {r : ℕ} → is_size ten_years r ≡ true → ltb 0 r ≡ true → Lawful ten_years r
lawful {r} s p = record { size = s; positive = ltb-true 0 r p }

alike : AllZip (Alike ten_years 1) (working 200 300) (working 500 250)
unfolding is_size
alike = (
  entries bid 200 500 refl (lawful refl refl) (lawful refl refl),
  (
    same Draw,
    (
      same _,
      (
        same Draw,
        (
          same Draw,
          (
            same Draw,
            (
              same _,
              (
                same Draw,
                (
                  same _,
                  (
                    same Draw,
                    (
                      same Draw,
                      (
                        changes again 300 250 refl (lawful refl refl) (lawful refl refl),
                        (
                          same Draw,
                          (
                            same _,
                            (
                              same Draw,
                              (
                                same Draw,
                                (
                                  same _,
                                  (
                                    same Draw,
                                    (
                                      same Draw,
                                      (
                                        same _,
                                        (
                                          same Draw,
                                          (
                                            same Draw,
                                            (
                                              same Draw,
                                              (same _, (same Draw, (same Draw, (same Draw, tt)))),
                                            ),
                                          ),
                                        ),
                                      ),
                                    ),
                                  ),
                                ),
                              ),
                            ),
                          ),
                        ),
                      ),
                    ),
                  ),
                ),
              ),
            ),
          ),
        ),
      ),
    ),
  ),
)

pub differing : Differing
unfolding rules
differing =
    record {
      alike = alike;
      kept = none-runs-out ten_years (working 200 300) (working 500 250) kept;
      left = (refl, refl);
      told = refl;
      out = refl;
      more = refl;
    }
