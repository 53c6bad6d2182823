-- A writer's answer, handed to a host. Assumes nothing.
use Prim.Native.Nat.{ℕ}
use mathlib.Core.Path.{◌≡◌, ap, ◌∙◌}
use mathlib.Core.List.{List}
use mathlib.Core.Bool.{Bool}
use Rattle.std.specs.Prelude.{Result}
use Rattle.written_lengths.specs.declared.WriteError.{WriteError}
use Rattle.written_lengths.specs.Wrote.{Wrote}
use Rattle.host_written.specs.Places.{written_status, written_places, HostWrote}

pub host_wrote : {good : Bool} {x : List ℕ} {at : ℕ} {room : List ℕ} {w : Result ℕ WriteError} {room₂ : List ℕ} → Wrote good x at room w room₂
    → (out : List ℕ) {status : ℕ} {out₂ : List ℕ} → status ≡ written_status w → out₂ ≡ written_places w out → HostWrote good x at room out status room₂ out₂
host_wrote w out s p =
    record {
      status_is = s ∙ ap written_status w.answer;
      room-is = w.output;
      out_is = p ∙ ap (λ (t : Result ℕ WriteError). written_places t out) w.answer;
    }
