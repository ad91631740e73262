-- The limits of a store and of its pods.
use Rattle.std.specs.Prelude.{ℕ}

-- the segments of a pod, over all its ads
abbrev pub most_pod_segments : ℕ
most_pod_segments = 500

-- the breaks that decisions gave pods
abbrev pub most_breaks : ℕ
most_breaks = 256
