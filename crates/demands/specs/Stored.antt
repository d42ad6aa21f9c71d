-- Dossiers of the old kind, which lie in store: what their reader read, when it refused, which elements it saw, and what was promised over these. Request M-103: "stored dossiers … read as before, with the same marks, lists and counts. A reader of the old kind, given a sound dossier of the new kind with a depth over 63, always refuses by 5 at its first record of depth 64".
-- Assumes nothing: these are definitions.
use Rattle.std.specs.Prelude.{◌≡◌, ◌↔◌, ◌≢◌, ℕ, zero, suc, ◌<◌, List, cond, length, nat_lt, Result, Ok}
use Rattle.dossier.specs.Elements.{Element, marks_of, effect_of, mark_of}
use Rattle.dossier.specs.Bytes.{records, byte_of, run, depth_at, key_at, elements_of}
use Rattle.dossier.specs.Replies.{refusal, and_then, afterwards, After, room_for, fronted}
use Rattle.dossier.specs.Reading.{low_after, high_after, read_by, read_of, Sound}
use Rattle.rules.specs.Rules.{Rule, list_bytes}
use Rattle.rules.specs.Combining.{combining_of}
use Rattle.marks.specs.Marks.{first}
use Rattle.marks.specs.Walking.{walked}
use Rattle.listing.specs.Listing.{list_of}
use Rattle.listing.specs.Area.{list_reply, list_area}
use Rattle.least.specs.Least.{by_rules}
use Rattle.least.specs.Folding.{FoldsOf, Folded, combining_for, FoldedFor}
use Rattle.least.specs.Judging.{ReportsOf, Judged, JudgedFor}
use Rattle.dossier.specs.declared.Refusal.{Refusal}
use Rattle.least.specs.declared.Report.{Report}

-- ---- the old kind

-- its deepest depth
abbrev pub old_deepest : ℕ
old_deepest = 63

-- its depth was byte 0 alone
abbrev pub old_depth : List ℕ → ℕ → ℕ
old_depth d i = byte_of d i 0

-- which elements its reader saw
abbrev pub old_element_at : List ℕ → ℕ → Element
old_element_at d i = record {
  depth = old_depth d i;
  decision = effect_of (byte_of d i 1);
  mark = mark_of (byte_of d i 2);
  key = key_at d i;
}

unfoldable pub old_elements : List ℕ → List Element
old_elements d = run (old_element_at d) 0 (records d)

-- when it refused record i: tested 5, 4, 6, where byte 3 had to be zero
abbrev pub old_before : List ℕ → ℕ → ℕ
old_before d zero = 0
old_before d (suc i) = old_depth d i

unfoldable pub old_fault : List ℕ → ℕ → ℕ
old_fault d i =
    cond (nat_lt old_deepest (old_depth d i)) 5
    (cond (nat_lt (old_depth d i) (low_after i)) 4
    (cond (nat_lt (high_after i (old_before d i)) (old_depth d i)) 4
    (cond (nat_lt 1 (byte_of d i 1)) 6
    (cond (nat_lt 3 (byte_of d i 2)) 6
    (cond (nat_lt 0 (byte_of d i 3)) 6 0)))))

unfoldable pub old_read : List ℕ → Result ℕ Refusal
old_read d = read_by (old_fault d) d

-- ---- what was promised over what it read and saw

-- the lister: 1 to 6, then 8; else the rules of the marks that the dossier holds
unfoldable pub old_listed : List ℕ → List Rule
old_listed d = list_of (old_elements d) (marks_of (old_elements d))

unfoldable pub old_list_reply : List ℕ → List ℕ → Result ℕ Refusal
old_list_reply d area = and_then (old_read d) (room_for (length (old_listed d)) area)

unfoldable pub old_list_area : List ℕ → List ℕ → List ℕ
old_list_area d area = afterwards (old_list_reply d area) area (fronted area (list_bytes (old_listed d)))

-- the folder and the judge, by the walk: 1 to 6
abbrev pub OldFolded : List ℕ → Result ℕ Refusal → List ℕ → Type 0
OldFolded d r new = After (old_read d) d (FoldsOf (walked first) (old_elements d) d) r new

abbrev pub OldJudged : List ℕ → Result Report Refusal → Type 0
OldJudged d j = After (old_read d) tt (ReportsOf (walked first) (old_elements d)) j tt

-- for a combining number: 1 to 6, then 11
unfoldable pub old_asked : List ℕ → ℕ → Result ℕ Refusal
old_asked d c = and_then (old_read d) (combining_for d c)

abbrev pub OldFoldedFor : ℕ → List ℕ → Result ℕ Refusal → List ℕ → Type 0
OldFoldedFor c d r new = After (old_asked d c) d (FoldsOf (by_rules (combining_of c)) (old_elements d) d) r new

abbrev pub OldJudgedFor : ℕ → List ℕ → Result Report Refusal → Type 0
OldJudgedFor c d j = After (old_asked d c) tt (ReportsOf (by_rules (combining_of c)) (old_elements d)) j tt

-- ---- old and new

-- the old reader accepts the dossier
abbrev pub OldSound : List ℕ → Type 0
OldSound d = (n : ℕ) × (old_read d ≡ Ok n)

-- record k is the first of depth 64
pub record First64 (d : List ℕ) (k : ℕ) : Type 0 where
  pub there : k < records d
  pub depth : depth_at d k ≡ 64
  pub before : (j : ℕ) → j < k → depth_at d j ≢ 64

pub record Stored : Type 0 where
  -- a dossier that the old reader accepts is sound now, is read with the same count, and has the same elements
  pub sound : (d : List ℕ) → OldSound d → Sound d
  pub reads : (d : List ℕ) → OldSound d → read_of d ≡ old_read d
  pub elements : (d : List ℕ) → OldSound d → elements_of d ≡ old_elements d
  -- the lister writes the same rules
  pub lists : (d area : List ℕ) → OldSound d → (list_reply d area ≡ old_list_reply d area) × (list_area d area ≡ old_list_area d area)
  -- the folder writes the same marks and replies the same count, by the walk and for each combining number
  pub folds : (d : List ℕ) (r : Result ℕ Refusal) (new : List ℕ) → OldSound d → Folded d r new ↔ OldFolded d r new
  pub folds_for : (c : ℕ) (d : List ℕ) (r : Result ℕ Refusal) (new : List ℕ) → OldSound d → FoldedFor c d r new ↔ OldFoldedFor c d r new
  -- the judge says the same
  pub judges : (d : List ℕ) (j : Result Report Refusal) → OldSound d → Judged d j ↔ OldJudged d j
  pub judges_for : (c : ℕ) (d : List ℕ) (j : Result Report Refusal) → OldSound d → JudgedFor c d j ↔ OldJudgedFor c d j
  -- the old reader refuses a sound dossier of the new kind with a depth over 63 by 5, at its first record of depth 64
  pub refuses : (d : List ℕ) (i : ℕ) → Sound d → i < records d → 63 < depth_at d i → (k : ℕ) × First64 d k × (old_read d ≡ refusal 5 0 k)
