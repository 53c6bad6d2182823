-- Stepping gives the report. Assumes nothing.
use Rattle.std.specs.Prelude.{Option, Some, None, Ok}
use Prim.Native.Nat.{ℕ, zero, suc, ◌+◌, ◌-◌, ◌≤◌, ◌<◌, ◌^◌, min}
use mathlib.Core.Path.{◌≡◌, refl, sym, ap, ◌∙◌}
use mathlib.Core.List.{List, [], ◌∷◌, map}
use native.Mathlib.Omega.{arith}
use lib.ListN.{length}
use Rattle.steps.specs.Tells.{saying, told_from}
use Rattle.steps.specs.Passed.{Passed}
use Rattle.klv.specs.Item.{Item}
use Rattle.records.specs.Records.{finished_list_by}
use Rattle.frame_walks.specs.declared.Camera.TheVariants as camera
use Rattle.frame_walks.specs.declared.FrameElement.{FrameElement}
use Rattle.frame_walks.specs.declared.Kind.{Kind}
use Rattle.frame_walks.specs.declared.Kind.TheVariants as kinds
use Rattle.frame_walks.specs.Kinds.{kind, goes_on_at}
use Rattle.frame_walks.specs.Frames.{carried, Shown, after, showing_as, showing}
use Rattle.frame_lists.proofs.Lists.{same_frames}
use Rattle.take_frames.specs.declared.Recorder.TheVariants as recorder
use Rattle.takes.specs.declared.Takes.{Takes}
use Rattle.take_frames.specs.declared.Kind as frame_kind
use Rattle.takes.specs.declared.Difference.{Difference}
use Rattle.take_frames.specs.Compared.{compared}
use Rattle.takes.specs.Takes.{recorded_of, behind, on_shown, frames_in, side_of, takes, differing, met_of, on_met, next_of, next_from, left_of, takes_step}
use Rattle.takes.specs.Differences.{only, between, differences}
use Rattle.takes.proofs.Walks.{Left, over, on, left}
use Rattle.takes.proofs.Nexts.{none-refused}
use Rattle.take_lists.specs.Reports.{report_from, Numbered, Gives, Stepping, Starting}

-- the number after n, where it fits
after_so : (n : ℕ) → n + 1 < 2 ^ 64 → after n ≡ n + 1
after_so n h = omega (arith, h)

-- where no frame is left, none is, whatever the number
none_left : (l : List Item) (g n h m : ℕ) → frames_in (told_from (showing camera.Arri) (carried g n) l) ≡ [] → frames_in (told_from (showing camera.Arri) (carried h m) l) ≡ []
unfolding told_from saying showing showing_as frames_in on_shown
none_left [] g n h m = λ x. refl
none_left (i ∷ l) g n h m = go (kind camera.Arri i) (none_left l)
  where
    go : (z : Kind) → ((a b c d : ℕ) → frames_in (told_from (showing camera.Arri) (carried a b) l) ≡ [] → frames_in (told_from (showing camera.Arri) (carried c d) l) ≡ [])
        → frames_in (saying (λ t. told_from (showing camera.Arri) t l) (showing_as camera.Arri (carried g n) i z)) ≡ []
        → frames_in (saying (λ t. told_from (showing camera.Arri) t l) (showing_as camera.Arri (carried h m) i z)) ≡ []
    go kinds.Frame ih x = absurd (let o : ◌≡◌ {A = ℕ} 0 1 = cc in omega arith)
    go kinds.Given ih x = ih (goes_on_at camera.Arri i) n (goes_on_at camera.Arri i) m x
    go kinds.Other ih x = ih (goes_on_at camera.Arri i) n (goes_on_at camera.Arri i) m x

over-left : (s : List ℕ) (e p n m : ℕ) → left_of s e p n ≡ [] → left_of s e p m ≡ []
over-left s e p n m = none_left (finished_list_by (goes_on_at camera.Arri) s e p) (min p p) n (min p p) m

only-main : (n : ℕ) (s : List ℕ) (l : List FrameElement) → differences n (map (recorded_of s) l) [] ≡ only recorder.Main n (map (recorded_of s) l)
unfolding differences only
only-main n s [] = refl
only-main n s (i ∷ l) = refl

module _ (s : List ℕ) (e : ℕ) (r : List ℕ) (f : ℕ) where
  carry : (t v : Takes) → report_from s e r f t ≡ report_from s e r f v → (a : Option (Difference × Takes)) → Gives s e r f v (Ok a) → Gives s e r f t (Ok a)
  unfolding Gives
  carry t v x (Some (d, u)) g = (x ∙ g.0, g.1)
  carry t v x None g = x ∙ g

  module _ (h : e ≤ length s) (g : f ≤ length r) where
    gives : (k : ℕ) (t : Takes) → e - t.main < k → Numbered s e r f t → Gives s e r f t (Ok (next_from s e r f t))
    unfolding side_of met_of differing next_of on_met Gives differences only between
    gives zero t b fit = absurd (omega arith)
    gives (suc k) t b fit = go _ _ (left s e h t.main t.number) (left r f g t.backup t.number) refl refl (gives k)
      where
        n : ℕ
        n = t.number

        both : (i j : FrameElement) (c : Option frame_kind.Kind) → t.main < e → t.main < behind i
            → left_of s e t.main n ≡ i ∷ left_of s e (behind i) (after n)
            → left_of r f t.backup n ≡ j ∷ left_of r f (behind j) (after n)
            → compared (recorded_of s i) (recorded_of r j) ≡ c
            → ((v : Takes) → e - v.main < k → Numbered s e r f v → Gives s e r f v (Ok (next_from s e r f v)))
            → Gives s e r f t
            (Ok (on_met (λ u. next_of s r u (left_of s e (behind i) (after n)) (left_of r f (behind j) (after n)))
            (Some (differing n c, takes (behind i) (behind j) (after n)))))
        both i j None m o px py x ih =
            let lx = ap length px in
            let ly = ap length py in
            let z = after_so n (omega (arith, lx, fit.0)) in
            let v = takes (behind i) (behind j) (after n) in
            carry t v (rw (px, py, x, z) refl) (next_of s r v (left_of s e (behind i) (after n)) (left_of r f (behind j) (after n)))
            (ih v (omega (arith, b, m, o)) (omega (arith, z, lx, fit.0), omega (arith, z, ly, fit.1)))
        both i j (Some q) m o px py x ih =
            let lx = ap length px in
            let ly = ap length py in
            let z = after_so n (omega (arith, lx, fit.0)) in
            (rw (px, py, x, z) refl, (omega (arith, z, lx, fit.0), omega (arith, z, ly, fit.1)))

        go : (xs ys : List FrameElement) → Left s e t.main t.number xs → Left r f t.backup t.number ys
            → left_of s e t.main n ≡ xs → left_of r f t.backup n ≡ ys
            → ((v : Takes) → e - v.main < k → Numbered s e r f v → Gives s e r f v (Ok (next_from s e r f v)))
            → Gives s e r f t (Ok (next_of s r t xs ys))
        go _ _ over over px py ih = rw (px, py) refl
        go _ _ over (on j a o) px py ih =
            let ly = ap length py in
            let z = after_so n (omega (arith, ly, fit.1)) in
            let pz = over-left s e t.main n (after n) px in
            let lz = ap length pz in
            (rw (px, py, pz, z) refl, (omega (arith, z, lz, ly, fit.1), omega (arith, z, ly, fit.1)))
        go _ _ (on i a o) over px py ih =
            let lx = ap length px in
            let z = after_so n (omega (arith, lx, fit.0)) in
            let pz = over-left r f t.backup n (after n) py in
            let lz = ap length pz in
            (rw (px, py, pz, only-main (after n) s (left_of s e (behind i) (after n)), z) refl, (omega (arith, z, lx, fit.0), omega (arith, z, lz, lx, fit.0)))
        go _ _ (on i a o) (on j c d) px py ih = both i j (compared (recorded_of s i) (recorded_of r j)) a o px py refl ih

    pub stepping_so : (t : Takes) → Numbered s e r f t → Gives s e r f t (takes_step s e r f t)
    stepping_so t fit = rw (sym (none-refused s e r f t h g)) (gives (suc (e - t.main)) t (omega arith) fit)

  length-left : (k p n : ℕ) → e - p < k → e ≤ length s → length (left_of s e p n) ≤ e - p
  length-left zero p n b h = absurd (omega arith)
  length-left (suc k) p n b h = go _ (left s e h p n) (length-left k)
    where
      go : (xs : List FrameElement) → Left s e p n xs → ((q m : ℕ) → e - q < k → e ≤ length s → length (left_of s e q m) ≤ e - q) → length xs ≤ e - p
      go _ over ih = omega arith
      go _ (on i a o) ih = let l = ih (behind i) (after n) (omega (arith, a, o, b)) h in omega (arith, a, o, l)

pub stepping : Stepping
stepping s e r f h g = stepping_so s e r f h g

pub starting : Starting
starting s e r f h g a b =
    let x = length-left s e r f (suc (e - 0)) 0 0 (omega arith) h in
    let y = length-left r f s e (suc (f - 0)) 0 0 (omega arith) g in
    let u = ap (λ (l : List (Passed Shown)). map (recorded_of s) (frames_in l)) (same_frames camera.Arri s e a) in
    let v = ap (λ (l : List (Passed Shown)). map (recorded_of r) (frames_in l)) (same_frames camera.Arri r f b) in
    ((omega (arith, x, a), omega (arith, y, b)), λ i. differences 0 (u i) (v i))
