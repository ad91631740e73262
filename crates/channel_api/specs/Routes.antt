-- What a target names.
use Rattle.std.specs.Prelude.{ℕ, Bool, true, false, ◌≡◌, ◌&&◌, ◌||◌, ◌==◌, nat_le, List, [], ◌∷◌, ◌++◌, codes, length, drop, Option, Some, None, option_and_then, if◌then◌else◌}
use Rattle.std.specs.Borrow.{Bor}
use Rattle.std.specs.List.{list_all, before_first}
use Rattle.std.specs.Char.{is_ascii_digit, is_ascii_lowercase}
use Rattle.matchit.specs.Rows.{RowsOf}
use Rattle.matchit.specs.Router.{RouteOf}
use Rattle.matchit.specs.Seek.{first}
use Rattle.matchit.specs.declared.error.InsertError.{InsertError}
use Rattle.matchit.specs.declared.error.InsertError.TheVariants.{OutOfMemory}
use Rattle.spec_words.specs.Bytes.{hyphen, slash, question_mark}
use Rattle.channel_api.specs.declared.routes.Resource.{Resource}
use Rattle.channel_api.specs.declared.routes.Resource.TheVariants.{Channel, Origin, Decisions, Live, Why}

abbrev pub is_channel_name_byte : ℕ → Bool
is_channel_name_byte b = is_ascii_lowercase b || is_ascii_digit b || b == hyphen

-- 1 to 32 of a to z, 0 to 9 and the hyphen
abbrev pub is_channel_name : List ℕ → Bool
is_channel_name name = nat_le 1 (length name) && nat_le (length name) 32 && list_all is_channel_name_byte name

-- the path of a target: all up to the first question mark
abbrev pub route_path_of : List ℕ → List ℕ
route_path_of target = before_first (λ b. b == question_mark) target

-- the text of a front of a path, before the name
abbrev pub front : List ℕ
front = codes "/channels/"

-- a route as the router keeps it: its pattern, in which 256 stands for the name, and its text
abbrev pub row : List ℕ → Resource → List ℕ × RouteOf Resource
row tail resource = (
  front ++ 256 ∷ tail,
  record { pattern = front ++ 256 ∷ tail; text = codes "/channels/{name}" ++ tail; names = (11, 15) ∷ []; value = resource },
)

abbrev pub route_rows : RowsOf (RouteOf Resource)
route_rows =
    row (codes "/decisions") Decisions ∷ row (codes "/live.m3u8") Live ∷ row (codes "/origin") Origin ∷ row (codes "/why") Why ∷ row [] Channel ∷ []

-- an allocation failed, and no route was in another one's way
abbrev pub IsOutOfMemory : InsertError → Type 0
IsOutOfMemory e = e ≡ OutOfMemory

-- what the router finds for a path
abbrev pub found_at : List ℕ → Option (RouteOf Resource)
found_at path = first route_rows path

-- the name in a path that has a route
abbrev pub channel_name_in_route : List ℕ → List ℕ
channel_name_in_route path = before_first (λ b. b == slash) (drop (length front) path)

abbrev pub named : List ℕ → RouteOf Resource → Option (List ℕ × Resource)
named path route = if is_channel_name (channel_name_in_route path) then Some (channel_name_in_route path, route.value) else None

abbrev pub pair : Bor (List ℕ) × Resource → List ℕ × Resource
pair found = (found.0.now, found.1)

-- the channel's name and what of it a path names
abbrev pub route_of : List ℕ → Option (List ℕ × Resource)
route_of path = option_and_then (named path) (found_at path)

-- ---- laws

-- the path of what is named of the channel of this name
abbrev pub path_to : List ℕ → Resource → List ℕ
path_to name Channel = front ++ name
path_to name Origin = front ++ (name ++ codes "/origin")
path_to name Decisions = front ++ (name ++ codes "/decisions")
path_to name Live = front ++ (name ++ codes "/live.m3u8")
path_to name Why = front ++ (name ++ codes "/why")

-- each name of a channel, of 32 bytes too, has its five routes
abbrev pub EachNameHasItsRoutes : Type 0
EachNameHasItsRoutes = (name : List ℕ) (resource : Resource) → is_channel_name name ≡ true → route_of (path_to name resource) ≡ Some (name, resource)

-- a path in which no channel's name is has no route
abbrev pub OthersHaveNone : Type 0
OthersHaveNone = (path : List ℕ) → is_channel_name (channel_name_in_route path) ≡ false → route_of path ≡ None
