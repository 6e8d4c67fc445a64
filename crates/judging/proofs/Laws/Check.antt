-- What the check promises beyond its definition, on one page. That every call ends in an answer (C12.8) is what its contract means.
--     report_long                 a buffer of 32 bytes or more changes in its first 32 only (`report_short` for others: Laws/Report) (C14.6)
--     read_or_not                 a file is readable, and judged by its conditions, or refused before them, with a number of 2 or more and a small
--                                 place (C11.7)
--     check_decides               with room for a report, a readable file is accepted exactly if each condition holds in every state; otherwise
--                                 the first untrue condition is named with the lowest-numbered state that breaks it; the tests made (C12.9, C12.10)
--     check_claims                what an accepted file claims is true (C12.11)
-- Assumes nothing.
use mathlib.Core.Path.{◌≡◌, refl, sym, ◌∙◌}
use mathlib.Core.Logic.{◌⊎◌, inl, inr}
use mathlib.Core.List.{List}
use Prim.Native.Nat.{ℕ, ◌<◌, ◌≤◌}
use native.Mathlib.Decide.{ℕ_discrete, dec_lt}
use native.Mathlib.Omega.{arith}
use lib.ListN.{length, drop}
use Rattle.std.specs.declared.result.Result.{Result}
use Rattle.std.specs.declared.result.Result.TheVariants.{Ok, Err}
use Rattle.shapes.specs.declared.Outline.{Outline}
use Rattle.shapes.specs.declared.Refusal.{Refusal}
use Rattle.shapes.specs.Refusal.{refused_number, refused_place}
use Rattle.truths.proofs.Laws.Truth.{by-test}
use Rattle.states.proofs.Laws.State.{within_length}
use Rattle.diagrams.specs.declared.Diagram.{Diagram}
use Rattle.diagrams.specs.Diagram.{found_of, diagram_of, Loaded}
use Rattle.diagrams.specs.Start.{starts_of, Readable}
use Rattle.diagrams.proofs.Laws.Diagram.{find_refuses, diagram_loaded, promised}
use Rattle.report.specs.declared.Verdict.{Verdict}
use Rattle.report.specs.Report.{report_of}
use Rattle.report.proofs.Laws.Report.{report_rest}
use Rattle.verdicts.specs.Verdict.{judged_of, refused_of, verdict_of, check_of}
use Rattle.verdicts.proofs.Laws.Verdict.{check_short, check_long, verdict_refused, verdict_startless, verdict_judged}
use Rattle.deciding.specs.Decision.{Decides}
use Rattle.deciding.proofs.Laws.Decision.{number_is, accepted, accepts, refused, judges}
use Rattle.soundness.specs.System.{Claim}
use Rattle.soundness.proofs.Laws.Sound.{sound}
use Rattle.soundness.proofs.Laws.System.{readable_starts}

-- ---- a file is readable, or refused before any condition
pub record Read (file : List ℕ) : Type 0 where
  pub diagram : Diagram
  pub readable : Readable file diagram
  pub is : verdict_of file ≡ judged_of file diagram

pub record Unread (file : List ℕ) : Type 0 where
  pub refusal : Refusal
  pub from : 2 ≤ refused_number refusal
  pub within : refused_place refusal ≤ 4096
  pub is : verdict_of file ≡ refused_of refusal

pub read_or_not : (file : List ℕ) → Read file ⊎ Unread file
read_or_not file = found (found_of file) refl
  where
    found : (x : Result Outline Refusal) → found_of file ≡ x → Read file ⊎ Unread file
    found (Ok o) is =
        let g = diagram_of file o in
        let r = diagram_loaded file o is in
        by-test (starts_of file g) (λ t. Read file ⊎ Unread file)
        (λ s. inl (record { diagram = g; readable = record { loaded = r; starts = s }; is = verdict_judged file g r s }))
        (λ s. inr (record { refusal = Refusal.NoStart; from = omega arith; within = omega arith; is = verdict_startless file g r s }))
    found (Err refusal) is =
        let small = find_refuses file refusal is in
        inr (record { refusal = refusal; from = small.0; within = small.1; is = verdict_refused file refusal is })

-- ---- what an accepted file claims
accepted_claims : (file : List ℕ) → (verdict_of file).number ≡ 0 → Claim file
accepted_claims file e = go (read_or_not file)
  where
    go : Read file ⊎ Unread file → Claim file
    go (inl x) =
        let g = x.diagram in
        let r = x.readable.loaded in
        record {
          diagram = g;
          readable = x.readable;
          claimed = sound file g r (accepted file g r (number_is (sym x.is) ∙ e));
          starts = readable_starts file g x.readable;
        }
    go (inr x) = absurd (omega (arith, number_is (sym x.is) ∙ e, x.from))

module _ (file : List ℕ) (room : ℕ) where
  pub check_claims : {v : Verdict} → v ≡ check_of file room → v.number ≡ 0 → Claim file
  check_claims {v} e z = go (dec_lt room 32)
    where
      number : {w : Verdict} → check_of file room ≡ w → w.number ≡ 0
      number is = number_is (sym (e ∙ is)) ∙ z

      go : Dec (room < 32) → Claim file
      go (yes l) = absurd (omega (arith, number (check_short file l)))
      go (no l) = accepted_claims file (number (check_long file (omega arith)))

  -- ---- what the verdict decides
  pub check_decides : {v : Verdict} → v ≡ check_of file room → Decides file room v
  check_decides e g r l =
      let is : check_of file room ≡ judged_of file g = check_long file l ∙ verdict_judged file g r.loaded r.starts in
      rw (e, is) (judges file g r.loaded)

-- ---- the buffer
-- a verdict has twelve values
judged_values : (file : List ℕ) (g : Diagram) → Loaded file g → length (judged_of file g).values ≡ 12
judged_values file g r = go (ℕ_discrete (judged_of file g).number 0)
  where
    go : Dec ((judged_of file g).number ≡ 0) → length (judged_of file g).values ≡ 12
    go (yes e) = rw (accepts file g r (accepted file g r e)) refl
    go (no n) = (within_length (refused file g r n).state).0 ∙ (promised file g r).long

verdict_values : (file : List ℕ) → length (verdict_of file).values ≡ 12
verdict_values file = go (read_or_not file)
  where
    go : Read file ⊎ Unread file → length (verdict_of file).values ≡ 12
    go (inl x) = rw x.is (judged_values file x.diagram x.readable.loaded)
    go (inr x) = rw x.is refl

check_values : (file : List ℕ) (room : ℕ) → length (check_of file room).values ≡ 12
check_values file room = go (dec_lt room 32)
  where
    go : Dec (room < 32) → length (check_of file room).values ≡ 12
    go (yes l) = rw (check_short file l) refl
    go (no l) = let m : 32 ≤ room = omega arith in rw (check_long file m) (verdict_values file)

pub report_long : (file report : List ℕ) → 32 ≤ length report
    → (length (report_of (check_of file (length report)) report) ≡ length report)
    × (drop 32 (report_of (check_of file (length report)) report) ≡ drop 32 report)
report_long file report l = report_rest (check_of file (length report)) report (check_values file (length report)) l
