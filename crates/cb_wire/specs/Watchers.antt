-- How a client is asked to tell of files that are written.
use Rattle.std.specs.Prelude.{codes}
use Rattle.json.specs.Json.{Json, array, string, object, no_items, item, no_members, member}

-- the files of C, wherever they are
abbrev pub c_files : Json
c_files = object (member (codes "globPattern") (string (codes "**/*.[ch]")) no_members)

-- that they are told of
abbrev pub watch_files : Json
watch_files =
    object (member (codes "id") (string (codes "files"))
    (member (codes "method") (string (codes "workspace/didChangeWatchedFiles"))
    (member (codes "registerOptions")
    (object (member (codes "watchers") (array (item c_files no_items)) no_members)) no_members)))

-- the request
abbrev pub watch_request : Json
watch_request =
    object (member (codes "jsonrpc") (string (codes "2.0"))
    (member (codes "id") (string (codes "watch"))
    (member (codes "method") (string (codes "client/registerCapability"))
    (member (codes "params")
    (object (member (codes "registrations") (array (item watch_files no_items)) no_members))
    no_members))))
