-- Records of a sound dossier, taken at some of its positions: if their depths are in order, their bytes are a sound dossier. Assumes nothing.
use Rattle.std.proofs.Common.{◌≡◌, ℕ, suc, ◌*◌, ◌<◌, ◌≤◌, List, [], ◌∷◌, ◌++◌, map, length, get_or, sym, refl, ap, ◌∙◌, ap₂, zero-add, arith}
use Rattle.dossier.specs.Limits.{width, most_elements}
use Rattle.dossier.specs.Bytes.{records, byte_of, run, record_at, joined, depth_at, element_at, elements_of}
use Rattle.dossier.specs.Order.{Ordered}
use Rattle.dossier.specs.Reading.{Sound}
use Rattle.dossier.proofs.Laws.{depth-bytes}
use Rattle.dossier.proofs.Runs.{run_at, run-same, run-map}
use Rattle.dossier.proofs.Widths.{byte_joined, length-joined, record-bytes, records-joined, run-all}

-- the positions are the dossier's
abbrev pub There : List ℕ → List ℕ → Type 0
There d ps = (k : ℕ) → k < length ps → get_or ps k 0 < records d

-- the eight bytes at a position
abbrev bytes_at : List ℕ → ℕ → List ℕ
bytes_at d p = run (byte_of d p) 0 width

same_bytes : (d ps : List ℕ) → There d ps → joined (record_at d) ps ≡ joined (bytes_at d) ps
same_bytes d [] there = refl
same_bytes d (p ∷ ps) there = ap₂ ◌++◌ (record-bytes width d p (omega arith) (there 0 (omega arith))) (same_bytes d ps (λ k l. there (suc k) (omega arith)))

module _ (d ps : List ℕ) (there : There d ps) (s : Sound d) where
  abbrev taken : List ℕ
  taken = joined (bytes_at d) ps

  taken_byte : (i k : ℕ) → i < length ps → k < width → byte_of taken i k ≡ byte_of d (get_or ps i 0) k
  taken_byte i k l h =
      byte_joined width (bytes_at d) (λ p. refl) ps i k 0 l h ∙ run_at (byte_of d (get_or ps i 0)) 0 width k 0 h ∙ ap (byte_of d (get_or ps i 0)) (zero-add k)

  taken-depth : (i : ℕ) → i < length ps → depth_at taken i ≡ depth_at d (get_or ps i 0)
  taken-depth i l =
      depth-bytes taken i (rw (records-joined width (bytes_at d) (λ p. refl) ps (omega arith)) l)
      ∙ rw (taken_byte i 0 l (omega arith), taken_byte i 3 l (omega arith)) (sym (depth-bytes d (get_or ps i 0) (there i l)))

  taken-element : (i : ℕ) → i < length ps → element_at taken i ≡ element_at d (get_or ps i 0)
  taken-element i l =
      rw (
        taken-depth i l,
        taken_byte i 1 l (omega arith),
        taken_byte i 2 l (omega arith),
        taken_byte i 4 l (omega arith),
        taken_byte i 5 l (omega arith),
        taken_byte i 6 l (omega arith),
        taken_byte i 7 l (omega arith),
      )

  taken-elements : elements_of taken ≡ map (element_at d) ps
  unfolding elements_of
  taken-elements =
      ap (run (element_at taken) 0) (records-joined width (bytes_at d) (λ p. refl) ps (omega arith))
      ∙ run-same (element_at taken) (λ k. element_at d (get_or ps k 0)) 0 (length ps) (λ k a b. taken-element k (omega arith))
      ∙ sym (run-map (element_at d) (λ k. get_or ps k 0) 0 (length ps))
      ∙ ap (map (element_at d)) (run-all (λ k. get_or ps k 0) ps 0 (λ i l. refl))

  pub taken-sound : 0 < length ps → length ps ≤ most_elements → Ordered (map (element_at d) ps) → Sound (joined (record_at d) ps)
  taken-sound some few o =
      let n : length taken ≡ length ps * width = length-joined width (bytes_at d) (λ p. refl) ps in
      let within : (i : ℕ) → i < records taken → i < length ps = λ i l. omega arith in
      rw (same_bytes d ps there) (record {
        some = omega arith;
        whole = omega arith;
        few = omega arith;
        order = rw taken-elements o;
        shallow = λ i l. rw (taken-depth i (within i l)) (s.shallow (get_or ps i 0) (there i (within i l)));
        decisions = λ i l. rw (taken_byte i 1 (within i l) (omega arith)) (s.decisions (get_or ps i 0) (there i (within i l)));
        marks = λ i l. rw (taken_byte i 2 (within i l) (omega arith)) (s.marks (get_or ps i 0) (there i (within i l)));
      })
