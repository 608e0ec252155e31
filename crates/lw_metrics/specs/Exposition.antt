-- The text format of Prometheus, version 0.0.4: of each family two lines that begin with `#`, and a line for each sample.
use Rattle.std.specs.Prelude.{ℕ, List, [], ◌∷◌, ◌++◌, ◌==◌, if◌then◌else◌, codes, flat_map, Option, Some, None}
use Rattle.lw_metrics.specs.declared.metric.Metric.{Metric}
use Rattle.lw_metrics.specs.Metrics.{name_of, help_of, kind_of}

-- a label by its name and its value
pub record Label : Type 0 where
  pub name : List ℕ
  pub value : List ℕ

-- what stands behind the metric's name, a label or none, and the number as it is written
pub record Sample : Type 0 where
  pub suffix : List ℕ
  pub label : Option Label
  pub value : List ℕ

-- a metric with its samples
pub record Family : Type 0 where
  pub metric : Metric
  pub samples : List Sample

-- in the value of a label a backslash stands before a backslash and a quote, and a line feed is a backslash and an n
unfoldable pub escaped_byte : ℕ → List ℕ
escaped_byte byte =
    if byte == 92
    then codes "\\\\"
    else if byte == 34 then codes "\\\"" else if byte == 10 then codes "\\n" else byte ∷ []

abbrev pub escaped : List ℕ → List ℕ
escaped value = flat_map escaped_byte value

abbrev pub label_text : Option Label → List ℕ
label_text None = []
label_text (Some label) = codes "{" ++ (label.name ++ (codes "=\"" ++ (escaped label.value ++ codes "\"}")))

unfoldable pub sample_text : Metric → Sample → List ℕ
sample_text metric sample =
    name_of metric ++ (sample.suffix ++ (label_text sample.label ++ (codes " " ++ (sample.value ++ codes "\n"))))

unfoldable pub help_text : Metric → List ℕ
help_text metric = codes "# HELP " ++ (name_of metric ++ (codes " " ++ (help_of metric ++ codes "\n")))

unfoldable pub type_text : Metric → List ℕ
type_text metric = codes "# TYPE " ++ (name_of metric ++ (codes " " ++ (kind_of metric ++ codes "\n")))

unfoldable pub family_text : Family → List ℕ
family_text family = help_text family.metric ++ (type_text family.metric ++ flat_map (sample_text family.metric) family.samples)

-- the families one after another
abbrev pub exposition : List Family → List ℕ
exposition families = flat_map family_text families
