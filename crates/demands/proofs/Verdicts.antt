-- The judge's verdict and the folder's marks, in the words of demand 3. Assumes nothing.
use Rattle.std.proofs.Common.{◌≡◌, ℕ, ◌*◌, ◌≤◌, ◌↔◌, List, length, replicate, refl, subst, le-ltb, Result, Ok, Err}
use Rattle.dossier.specs.Limits.{width}
use Rattle.dossier.specs.declared.elements.Mark.{Mark}
use Rattle.dossier.specs.declared.elements.Mark.TheVariants.{Minus as m-}
use Rattle.dossier.specs.Bytes.{records, elements_of, with_marks}
use Rattle.dossier.specs.Replies.{room_by}
use Rattle.dossier.specs.Reading.{Sound}
use Rattle.dossier.proofs.Sounds.{sound-counted}
use Rattle.listing.specs.Area.{listed_of, list_reply}
use Rattle.listing.proofs.Costs.{elements-length}
use Rattle.least.specs.Least.{Right, count, Least, First}
use Rattle.least.specs.Folding.{Folds}
use Rattle.least.specs.Judging.{Holds, Judges, JudgedAfter}
use Rattle.least.specs.declared.Verdict.{Verdict}
use Rattle.least.specs.declared.Verdict.TheVariants as verdict
use Rattle.least.specs.declared.Report.{Report}
use Rattle.least.proofs.Verdicts.{verdict-unique}
use Rattle.least.proofs.OwnMarks.{Listed}
use Rattle.demands.specs.Demand3.{Way, FoldedBy, JudgedBy, marks_in, Demand3}
use Rattle.dossier.specs.declared.Refusal.{Refusal}

-- ---- what is known of a way to fold and to judge

pub record Known (w : Way) : Type 0 where
  -- of a sound dossier nothing is refused
  pub accepted : (d : List ℕ) → Sound d → w.asked d ≡ Ok (records d)
  -- `-` everywhere is right
  pub minuses : (d : List ℕ) → Sound d → Right w.answers (elements_of d) (replicate (length (elements_of d)) m-)
  -- the folder's own marks, and those that it finds
  pub lists : (d : List ℕ) (reply : Result ℕ Refusal) (new : List ℕ) → Sound d → FoldedBy w d reply new → Listed d reply new
  pub judged : (d : List ℕ) (n : ℕ) (new : List ℕ) (j : Result Report Refusal) → Sound d → FoldedBy w d (Ok n) new → JudgedBy w new j
      → j ≡ Ok (record { count = n; verdict = verdict.Least })
  pub ignores : (d : List ℕ) (found : List Mark) (reply other : Result ℕ Refusal) (new left : List ℕ) → Sound d → length found ≡ records d
      → FoldedBy w d reply new → FoldedBy w (with_marks d 0 found) other left → (reply ≡ other) × (new ≡ left)

module _ (w : Way) (known : Known w) where
  -- ---- the judge

  module _ (d : List ℕ) (r : Report) where
    judges : Sound d → JudgedBy w d (Ok r) → Judges w.answers (elements_of d) (marks_in d) r
    judges s h = rw (known.accepted d s) at h

    -- a verdict is given exactly if it holds
    exactly : (v : Verdict) → Sound d → JudgedBy w d (Ok r) → (r.verdict ≡ v) ↔ Holds w.answers (elements_of d) (marks_in d) v
    exactly v s h =
        let j = (judges s h).holds in
        (λ e. subst (Holds w.answers (elements_of d) (marks_in d)) e j, verdict-unique w.answers (elements_of d) (marks_in d) r.verdict v j)

  reported : (d : List ℕ) (j : Result Report Refusal) → Sound d → JudgedBy w d j → (r : Report) × (j ≡ Ok r) × (r.count ≡ count (elements_of d) (marks_in d))
  reported d j s h = go j (rw (known.accepted d s) at h)
    where
      go : (j : Result Report Refusal) → JudgedAfter w.answers (Ok (records d)) d j → (r : Report) × (j ≡ Ok r) × (r.count ≡ count (elements_of d) (marks_in d))
      go (Ok r) h = (r, refl, h.counted)
      go (Err f) h = absurd h

  -- ---- the folder

  own-count : (d : List ℕ) (n : ℕ) (new : List ℕ) → Sound d → FoldedBy w d (Ok n) new
      → (n ≡ length (listed_of new)) × ((area : List ℕ) → n * width ≤ length area → list_reply new area ≡ Ok n)
  unfolding list_reply room_by
  own-count d n new s f =
      let l = known.lists d (Ok n) new s f in
      let e : n ≡ length (listed_of new) = cc l.replied in
      (e, λ area h. rw (sound-counted new l.sound, ← e, le-ltb (length area) (n * width) h))

  module _ (d : List ℕ) (reply : Result ℕ Refusal) (new : List ℕ) (s : Sound d) (f : FoldedBy w d reply new) where
    own_bounds : (n : ℕ) × (reply ≡ Ok n) × (1 ≤ n) × (n ≤ records d)
    own_bounds = let l = known.lists d reply new s f in (length (listed_of new), l.replied, l.some, l.most)

    own_first : (ms : List Mark) × (new ≡ with_marks d 0 ms) × Least w.answers (elements_of d) ms × ((other : List Mark) → Least w.answers (elements_of d) other → First ms other)
    own_first =
        let g : Folds w.answers d reply new = rw (known.accepted d s) at f in
        (g.marks, g.written, g.folds.least, g.folds.first)

  -- ---- the demand

  pub demand_by : Demand3 w
  demand_by = record {
    least = λ d r. exactly d r verdict.Least;
    longer = λ d r n. exactly d r (verdict.Longer n);
    wrong = λ d r i a. exactly d r (verdict.Wrong i a);
    reported = reported;
    minus_right = λ d s. rw (elements-length d) at (known.minuses d s);
    own-least = known.judged;
    own-count = own-count;
    own_bounds = own_bounds;
    own_first = own_first;
    own-ignores = known.ignores;
  }
