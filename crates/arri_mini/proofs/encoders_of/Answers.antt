-- `arri_mini::encoders_of` meets its contract, field by field.
use Rattle.arri_mini.specs.Dynamic.{encoders_of}
use Rattle.arri_mini.proofs.encoders_of.Goals as goal

pub returns : goal.returns
unfolding encoders_of
returns c =
    λ i. record {
      focus_lds = c.encoder_at.ensures i;
      focus_motor = c.encoder_at-2.ensures i;
      zoom_lds = c.encoder_at-3.ensures i;
      zoom_motor = c.encoder_at-4.ensures i;
      iris_lds = c.encoder_at-5.ensures i;
      iris_motor = c.encoder_at-6.ensures i;
    }
