-- Beside specs/Below.antt: what no clause of `run` reaches.
use Rattle.propagation_points.specs.Settings.{Setting}

-- Where a condition of composite states stands: the points and the states of the component, the text in which it is read, and
-- what lies below the component.
pub record CompositePlace (Below : Type 0) : Type 0 where
  pub setting : Setting
  pub below : Below
