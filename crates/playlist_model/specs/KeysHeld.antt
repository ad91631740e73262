-- The keys that are held.
use Rattle.std.specs.Prelude.{List, [], map}
use Rattle.playlist_model.specs.declared.Key.{Key}
use Rattle.playlist_model.specs.declared.in_force.Held.{Held}
use Rattle.playlist_model.specs.declared.in_force.Held.TheVariants.{Clear, Stated, Under}
use Rattle.playlist_model.specs.EffectiveKeys.{effective_key}

abbrev pub keys_held : Held → List Key
keys_held Clear = []
keys_held (Stated keys) = keys
keys_held (Under keys number) = map (effective_key number) keys
